-- What document 01's words on expansion leave to the reader, each line by computing; its own case 7 stands in `theorems`. Assumes nothing.
use Prim.Native.Char.{code}
use mathlib.Core.Path.{◌≡◌, refl}
use mathlib.Core.List.{[], ◌∷◌}
use lib.Dec.{lit<}
use Rattle.foundation.specs.Text.{characters}
use Rattle.std.specs.Prelude.{Err}
use Rattle.foundation.specs.declared.refusal.Fault.TheVariants.{LongType}
use Rattle.foundation.specs.Digits.{worth_of}
use Rattle.custom_type.specs.Number.{readable, without_plus}
use Rattle.custom_type.specs.Expansion.{copied, step, gone_through, expanded}
use Rattle.custom_type.specs.Resolved.{told}
use Rattle.custom_type.proofs.Plain.{large}

-- runs of the published code agree with each of these
pub record Edges : Type 0 where
  pub no_number : expanded (characters "f[]L[+]") ≡ characters "fL"
  pub two_signs : expanded (characters "f[++3]") ≡ characters "f"
  pub no_digit : expanded (characters "f[3 ]") ≡ characters "f"
  pub leading_zeros : expanded (characters "f[000000000000000000000000000003]") ≡ characters "fff"
  pub cleared : expanded (characters "f[2]L[]s]") ≡ characters "ffLs"
  pub copies_of_copies : expanded (characters "f[2][3]") ≡ characters "ffff"
  pub above_127 : expanded (233 ∷ characters "[3][2]") ≡ 233 ∷ 169 ∷ 169 ∷ 169 ∷ []

pub edges : Edges
unfolding expanded gone_through step copied readable without_plus worth_of
edges =
    record {
      no_number = refl;
      two_signs = refl;
      no_digit = refl;
      leading_zeros = refl;
      cleared = refl;
      copies_of_copies = refl;
      above_127 = refl;
    }

-- refused without writing out a single copy
pub most_of_64_bits : told (expanded (characters "f[18446744073709551615]")) ≡ Err LongType
unfolding readable without_plus worth_of
most_of_64_bits = large (code "f") (characters "18446744073709551615") refl refl (lit< tt)
