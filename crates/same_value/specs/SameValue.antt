-- The same value at every row and column, refusal numbers included: demand 3, "with the same group, identity, type, bytes and value", in what the
-- calls `element`, `shape_at` and `columns_at` answer at a row's places. Assumes nothing: these are definitions.
use Rattle.std.specs.Prelude.{ℕ, ◌≡◌, List, Result, Ok, Err}
use Rattle.foundation.specs.declared.refusal.Refusal.{Refusal}
use Rattle.foundation.specs.Refusals.{refuse}
use Rattle.elements.specs.declared.Element.{Element}
use Rattle.value.specs.declared.Shape.{Shape}
use Rattle.reading.specs.Record.{Record}
use Rattle.values.specs.At.{element_of_found, shape_of_found, columns_of_found}
use Rattle.newer_camera.specs.OldReader.{found_for}

-- the same answer told of another place: a value's refusal has "the place asked" (document 01, Refusal numbers), and nothing else of it is of a place
abbrev pub told_at : {A : Type 0} → Result A Refusal → ℕ → Result A Refusal
told_at (Ok x) place = Ok x
told_at (Err r) place = refuse r.number place

-- an element
abbrev pub element_at_place : Result Element Refusal → ℕ → Result Element Refusal
element_at_place = told_at

-- a shape
abbrev pub shape_at_place : Result Shape Refusal → ℕ → Result Shape Refusal
shape_at_place = told_at

-- columns
abbrev pub columns_at_place : Result ℕ Refusal → ℕ → Result ℕ Refusal
columns_at_place = told_at

-- a row r of the payload s, and what it is now in t
pub record SameValue (s t : List ℕ) (r now : Record) : Type 0 where
  pub element : (row column : ℕ) → element_of_found (found_for t now) now.place row column ≡ element_at_place (element_of_found (found_for s r) r.place row column) now.place
  pub shape : shape_of_found (found_for t now) now.place ≡ shape_at_place (shape_of_found (found_for s r) r.place) now.place
  pub columns : (row : ℕ) → columns_of_found (found_for t now) now.place row ≡ columns_at_place (columns_of_found (found_for s r) r.place row) now.place
