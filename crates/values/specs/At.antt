-- What is answered of the value of the item at a place: document 01, Refusal numbers and Values, in the order 1, 12, 2, 8, 6, 7, 13.
-- Assumes nothing: these are definitions.
use Rattle.std.specs.Prelude.{ℕ, Result, Ok}
use Rattle.foundation.specs.declared.refusal.Refusal.{Refusal}
use Rattle.foundation.specs.Refusals.{refuse}
use Rattle.klv.specs.declared.KLV.{KLV}
use Rattle.items.specs.At.{Found, found, stopped}
use Rattle.elements.specs.declared.Element.{Element}
use Rattle.value.specs.declared.Shape.{Shape}
use Rattle.value.specs.Value.{value_of}
use Rattle.value.specs.Answer.{element_in, shape_in, columns_in}

-- the header of what was found
abbrev pub klv_of_found : Found → Result KLV Refusal
klv_of_found (stopped number place) = refuse number place
klv_of_found (found h payload type) = Ok h

-- the element at a row and a column of its value
abbrev pub element_of_found : Found → ℕ → ℕ → ℕ → Result Element Refusal
element_of_found (stopped number place) at row column = refuse number place
element_of_found (found h payload type) at row column = element_in at (value_of h payload type) row column

-- the shape of its value
abbrev pub shape_of_found : Found → ℕ → Result Shape Refusal
shape_of_found (stopped number place) at = refuse number place
shape_of_found (found h payload type) at = shape_in at (value_of h payload type)

-- the columns of a row of its value
abbrev pub columns_of_found : Found → ℕ → ℕ → Result ℕ Refusal
columns_of_found (stopped number place) at row = refuse number place
columns_of_found (found h payload type) at row = columns_in at (value_of h payload type) row
