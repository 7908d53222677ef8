-- What is answered of a value: an element, its shape, the columns of a row (document 01, Refusal numbers and Values). Assumes nothing: these are definitions.
use Rattle.std.specs.Prelude.{ℕ, cond, ◌&&◌, ltb, Result, Ok, Err}
use Rattle.foundation.specs.declared.refusal.Refusal.{Refusal}
use Rattle.foundation.specs.Refusals as refusals
use Rattle.foundation.specs.Refusals.{refuse}
use Rattle.elements.specs.declared.Element.{Element}
use Rattle.value.specs.declared.Shape.{Shape}
use Rattle.value.specs.Value.{ValueOutcome, readable, refused}

-- the element at a row and a column; refusal 13 outside the value
abbrev pub element_in : ℕ → ValueOutcome → ℕ → ℕ → Result Element Refusal
element_in place (refused number) row column = refuse number place
element_in place (readable v) row column = cond (ltb row v.rows && ltb column (v.columns row)) (Ok (v.element row column)) (refuse refusals.outside place)

-- its kind, its rows, and the columns of its first row
abbrev pub shape_in : ℕ → ValueOutcome → Result Shape Refusal
shape_in place (refused number) = refuse number place
shape_in place (readable v) = Ok (record { kind = v.kind; rows = v.rows; columns = v.columns 0 })

-- the columns of a row
abbrev pub columns_in : ℕ → ValueOutcome → ℕ → Result ℕ Refusal
columns_in place (refused number) row = refuse number place
columns_in place (readable v) row = cond (ltb row v.rows) (Ok (v.columns row)) (refuse refusals.outside place)

-- the columns read off a shape, which is right where each row has as many: for the code, and said of no call from outside
abbrev pub columns_by_shape : Result Shape Refusal → ℕ → ℕ → Result ℕ Refusal
columns_by_shape (Err r) place row = Err r
columns_by_shape (Ok shape) place row = cond (ltb row shape.rows) (Ok shape.columns) (refuse refusals.outside place)
