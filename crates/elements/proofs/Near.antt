-- How near q and Q are read to their numbers, of the bytes at a place (document 01, Values). From the laws of their two parts. Assumes nothing.
use Prim.Native.Nat.{ℕ, ◌+◌, ◌/◌, ◌%◌, ◌^◌, ◌<◌, ◌≤◌}
use Prim.Native.Char.{code}
use mathlib.Core.Path.{◌≡◌}
use mathlib.Core.List.{List}
use native.Mathlib.Omega.{arith}
use borrow.Author.Tests.{le-leb}
use lib.IntN.{ℤ, pos, neg_ℤ}
use lib.ListN.{length, take, drop}
use lib.Ieee.{Float}
use Rattle.foundation.specs.BigEndian.{big_endian, AreBytes}
use Rattle.foundation.proofs.BigEndian.{part_bound}
use Rattle.foundation.proofs.Bytes.{drop_bytes}
use Rattle.fixed.specs.declared.Exact.{Exact}
use Rattle.fixed.specs.Fixed.{q15_16, q15_16_exact, q31_32, q31_32_exact}
use Rattle.fixed.specs.Distance.{Equals, Within}
use Rattle.fixed.specs.Laws.{FromTo, Parts15_16, Parts31_32}
use Rattle.fixed.proofs.Range.{ranged}
use Rattle.fixed.proofs.Q15.{exact_sum, within_1024th}
use Rattle.fixed.proofs.Q31.{within_two_to_minus_22}
use Rattle.elements.specs.declared.Element.{Element}
use Rattle.elements.specs.declared.Element.TheVariants.{Single, Double}
use Rattle.elements.specs.Types.{width_of}
use Rattle.elements.specs.Element.{signed_of, element_of, element_at, exact_of, exact_at}
use Rattle.elements.proofs.TwosComplement.{signed_below}

-- an element is an f32 or an f64, and of that float something holds
pub record Reads (made : Float → Element) (e : Element) (Holds : Float → Type 0) : Type 0 where
  pub float : Float
  pub is : e ≡ made float
  pub holds : Holds float

module _ (s : List ℕ) (at : ℕ) where
  -- the number that so many bytes at the place give
  abbrev number : ℕ → ℕ
  number width = big_endian (take width (drop at s))

  -- q at the place: its "signed 16-bit part", its "unsigned 16-bit part", and the number that it stands for
  abbrev pub high15_16 : ℤ
  high15_16 = signed_of 0x8000 (number 4 / 0x1_0000)

  abbrev pub low15_16 : ℕ
  low15_16 = number 4 % 0x1_0000

  abbrev pub exact15_16 : Exact
  exact15_16 = q15_16_exact high15_16 low15_16

  -- Q's parts
  abbrev high31_32 : ℤ
  high31_32 = signed_of 0x8000_0000 (number 8 / 0x1_0000_0000)

  abbrev low31_32 : ℕ
  low31_32 = number 8 % 0x1_0000_0000

  module _ (bytes : AreBytes s) where
    bound : (width : ℕ) → number width < 256 ^ width
    bound width = part_bound width (drop at s) (drop_bytes at s bytes)

    module _ (there : at + 4 ≤ length s) where
      q_is : element_at s at (code "q") ≡ Single (q15_16 high15_16 low15_16)
      unfolding element_at element_of width_of
      q_is = simp (le-leb (at + 4) (length s) there)

      parts15_16 : Parts15_16 high15_16 low15_16
      parts15_16 =
          let h = bound 4 in
          record { signed = ranged 0x7fff high15_16 (signed_below 0x8000 (number 4 / 0x1_0000) (omega arith)); unsigned = omega arith }

      -- "Exact for a high part of -256 to 255, .." (document 01, Values)
      pub exact_sum_at : FromTo (neg_ℤ (pos 256)) (pos 255) high15_16 → Reads Single (element_at s at (code "q")) (λ x. Equals x exact15_16)
      exact_sum_at h = record { float = q15_16 high15_16 low15_16; is = q_is; holds = exact_sum high15_16 low15_16 h parts15_16.unsigned }

      -- ".. else within 1/1024" (document 01, Values)
      pub within_1024th_at : Reads Single (element_at s at (code "q")) (λ x. Within x exact15_16 1 1024)
      within_1024th_at = record { float = q15_16 high15_16 low15_16; is = q_is; holds = within_1024th high15_16 low15_16 parts15_16 }

    module _ (there : at + 8 ≤ length s) where
      Q-is : element_at s at (code "Q") ≡ Double (q31_32 high31_32 low31_32)
      unfolding element_at element_of width_of
      Q-is = simp (le-leb (at + 8) (length s) there)

      exact_is : exact_at s at ≡ q31_32_exact high31_32 low31_32
      unfolding exact_at exact_of
      exact_is = simp (le-leb (at + 8) (length s) there)

      parts31_32 : Parts31_32 high31_32 low31_32
      parts31_32 =
          let h = bound 8 in
          record { signed = ranged 0x7fff_ffff high31_32 (signed_below 0x8000_0000 (number 8 / 0x1_0000_0000) (omega arith)); unsigned = omega arith }

      -- "the f64 lies within 2^-22 of it", the exact form (document 01, Values)
      pub within_two_to_minus_22_at : Reads Double (element_at s at (code "Q")) (λ x. Within x (exact_at s at) 1 (2 ^ 22))
      within_two_to_minus_22_at =
          record { float = q31_32 high31_32 low31_32; is = Q-is; holds = rw exact_is (within_two_to_minus_22 high31_32 low31_32 parts31_32) }
