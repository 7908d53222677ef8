-- ALL ELEMENTS ARE THE SINGLE ONES: where each row of a value has as many columns, number i of what `elements_at` lays is the bits of what `element`
-- answers at row i / columns and column i % columns. Assumes nothing.
use Prim.Native.Nat.{ℕ, ◌/◌, ◌%◌, ◌<◌}
use mathlib.Core.Path.{◌≡◌}
use mathlib.Core.List.{List}
use lib.ListN.{get_or}
use Rattle.klv.specs.declared.KLV.{KLV}
use Rattle.items.specs.At.{found}
use Rattle.value.specs.declared.Shape.{Shape}
use Rattle.value.specs.Value.{value_of}
use Rattle.values.specs.At.{element_of_found, shape_of_found}
use Rattle.std.specs.Prelude.{Ok}
use Rattle.element_bits.specs.Bits.{bits_read}
use Rattle.all_elements.specs.Laid.{LaidOfFound}
use Rattle.all_elements.specs.Letter.{Even}
use Rattle.all_elements.proofs.InOrder.{number_at}

pub number_is_element : (h : KLV) (payload type : List ℕ) (at : ℕ) (shape : Shape) → Ok shape ≡ shape_of_found (found h payload type) at → Even (value_of h payload type)
    → (old new : List ℕ) (n : ℕ) → LaidOfFound (found h payload type) at old (Ok n) new
    → (i : ℕ) → i < n → get_or new i 0 ≡ bits_read (element_of_found (found h payload type) at (i / shape.columns) (i % shape.columns))
number_is_element h payload type at shape is even old new n laid i l =
    number_at (value_of h payload type) at shape (record { is = is; even = even }) old new n (record { is = laid.is; numbers = laid.numbers }) i l
