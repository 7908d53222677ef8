-- An `s` has 16 bits and an `L` has 32: from the bytes that they are read from. Assumes nothing.
use Prim.Native.Nat.{ℕ, ◌+◌, ◌-◌, ◌<◌, ◌≤◌}
use Prim.Native.Char.{code}
use mathlib.Core.Path.{◌≡◌, refl, ap, sym, subst, ◌∙◌}
use mathlib.Core.Bool.{Bool, true, false, cond}
use mathlib.Core.List.{List}
use native.Mathlib.Omega.{arith}
use lib.Dec.{leb, ltb}
use lib.IntN.{pos, negsuc}
use lib.ListN.{length, take, drop}
use mir.Syntax.{w16}
use mir.Val.{SFits}
use borrow.Author.Tests.{ltb-true, ltb-false}
use Rattle.foundation.specs.BigEndian.{big_endian, AreBytes}
use Rattle.foundation.proofs.BigEndian.{part_bound}
use Rattle.foundation.proofs.Bytes.{take_bytes, drop_bytes}
use Rattle.klv.specs.Item.{data_len, payload_at}
use Rattle.klv.specs.Header.{header_at}
use Rattle.klv.specs.declared.KLV.{KLV}
use Rattle.std.specs.Prelude.{Ok}
use Rattle.elements.specs.declared.Element.{Element}
use Rattle.elements.specs.declared.Element.TheVariants.{Signed, Unsigned}
use Rattle.elements.specs.Types.{width_of}
use Rattle.elements.specs.Element.{signed_of, element_of, element_at}
use Rattle.items.specs.At.{found_at}
use Rattle.values.specs.At.{element_of_found}
use Rattle.tagged.specs.Number.{Sixteen, ThirtyTwo, Held}
use Rattle.tagged.proofs.Inside.{element_held}

signed_fits : (n : ℕ) → n < 65536 → SFits w16 (signed_of 32768 n)
signed_fits n h = go (ltb n 32768) refl
  where
    go : (b : Bool) → ltb n 32768 ≡ b → SFits w16 (cond b (pos n) (negsuc (32768 + 32768 - 1 - n)))
    go true e = let l : n < 32768 = ltb-true n 32768 e in record { sfits = omega arith }
    go false e = let l : 32768 ≤ n = ltb-false n 32768 e in record { sfits = omega arith }

module _ (s : List ℕ) (bytes : AreBytes s) (k : ℕ) where
  pub sixteen : Sixteen (element_at s k (code "s"))
  unfolding element_at element_of width_of
  sixteen = there (leb (k + 2) (length s))
    where
      there : (b : Bool) → Sixteen (cond b (Signed (signed_of 32768 (big_endian (take 2 (drop k s))))) (Unsigned 0))
      there true = signed_fits (big_endian (take 2 (drop k s))) (part_bound 2 (drop k s) (drop_bytes k s bytes))
      there false = tt

  pub thirty_two : ThirtyTwo (element_at s k (code "L"))
  unfolding element_at element_of width_of
  thirty_two = there (leb (k + 4) (length s))
    where
      there : (b : Bool) → ThirtyTwo (cond b (Unsigned (big_endian (take 4 (drop k s)))) (Unsigned 0))
      there true = part_bound 4 (drop k s) (drop_bytes k s bytes)
      there false = omega arith

-- AN ELEMENT of the item at a place
module _ (s : List ℕ) (bytes : AreBytes s) (at : ℕ) (h : KLV) (is_item : header_at s at ≡ Ok h) (row column : ℕ) where
  payload_bytes : AreBytes (payload_at s at h)
  payload_bytes = take_bytes (data_len h) (drop (at + 8) s) (drop_bytes (at + 8) s bytes)

  module _ (Q : Element → Type 0) (letter : ℕ) (is : h.data_type ≡ letter) (wide : width_of letter ≡ 0 → ⊥) (each : (k : ℕ) → Q (element_at (payload_at s at h) k letter)) where
    of_letter : Held Q (element_of_found (found_at s at 4294967295) at row column)
    of_letter =
        element_held Q s at h is_item (λ (e : width_of h.data_type ≡ 0). wide (ap width_of (sym is) ∙ e)) row column
        (λ k. subst (λ (l : ℕ). Q (element_at (payload_at s at h) k l)) (sym is) (each k))

  pub s_held : h.data_type ≡ code "s" → Held Sixteen (element_of_found (found_at s at 4294967295) at row column)
  unfolding width_of
  s_held e = of_letter Sixteen (code "s") e (λ (z : width_of (code "s") ≡ 0). omega (arith, z)) (λ k. sixteen (payload_at s at h) payload_bytes k)

  pub L-held : h.data_type ≡ code "L" → Held ThirtyTwo (element_of_found (found_at s at 4294967295) at row column)
  unfolding width_of
  L-held e = of_letter ThirtyTwo (code "L") e (λ (z : width_of (code "L") ≡ 0). omega (arith, z)) (λ k. thirty_two (payload_at s at h) payload_bytes k)
