-- A read of the item that a group has of a tag. Document 01, Values. Assumes nothing: these are definitions.
use Rattle.std.specs.Prelude.{ℕ, List, Result}
use Rattle.klv.specs.Limits.{no_place}
use Rattle.items.specs.At.{found_at}
use Rattle.foundation.specs.declared.refusal.Refusal.{Refusal}
use Rattle.elements.specs.declared.Element.{Element}
use Rattle.values.specs.At.{element_of_found}

-- the element at a row and a column of the item at a place, for which no TYPE is in force
abbrev pub read_at : List ℕ → ℕ → ℕ → ℕ → Result Element Refusal
read_at s at row column = element_of_found (found_at s at no_place) at row column
