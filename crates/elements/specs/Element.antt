-- One element of a value: a signed or unsigned whole number, an f32 or an f64 (document 01, Values; GPMF description, Types).
-- Assumes nothing: these are definitions.
use Rattle.std.specs.Prelude.{ℕ, ◌+◌, ◌-◌, ◌/◌, ◌%◌, ◌^◌, cond, List, ltb, leb, ℤ, pos, negsuc, length, take, drop}
use Rattle.std.specs.Float.{binary32, binary64}
use Rattle.std.specs.Float.Ieee.{of_bits}
use Rattle.foundation.specs.BigEndian.{big_endian}
use Rattle.fixed.specs.declared.Exact.{Exact}
use Rattle.fixed.specs.Fixed.{q15_16, q31_32, q31_32_exact}
use Rattle.elements.specs.Types.{among, width_of}
use Rattle.elements.specs.declared.Element.{Element}
use Rattle.elements.specs.declared.Element.TheVariants.{Signed, Unsigned, Single, Double}

-- the signed number of a width whose first bit weighs `half`: that bit counts the other way
abbrev pub signed_of : ℕ → ℕ → ℤ
signed_of half n = cond (ltb n half) (pos n) (negsuc (half + half - 1 - n))

-- what the number that an element's bytes give stands for, by its letter
unfoldable pub element_of : ℕ → ℕ → Element
unfolding of_bits
element_of letter n =
    cond (among "bslj" letter) (Signed (signed_of (256 ^ width_of letter / 2) n))
    (cond (among "BSLJ" letter) (Unsigned n)
    (cond (among "f" letter) (Single (of_bits binary32 n))
    (cond (among "d" letter) (Double (of_bits binary64 n))
    (cond (among "q" letter) (Single (q15_16 (signed_of 0x8000 (n / 0x1_0000)) (n % 0x1_0000)))
    (cond (among "Q" letter) (Double (q31_32 (signed_of 0x8000_0000 (n / 0x1_0000_0000)) (n % 0x1_0000_0000))) (Unsigned 0))))))

-- the element at a place: 0 where its bytes are not all there
unfoldable pub element_at : List ℕ → ℕ → ℕ → Element
element_at s at letter = cond (leb (at + width_of letter) (length s)) (element_of letter (big_endian (take (width_of letter) (drop at s)))) (Unsigned 0)

-- ---- Q with nothing rounded: "the exact form, two whole numbers" (document 01, Values)

-- of the number that its bytes give: the same two parts
unfoldable pub exact_of : ℕ → Exact
exact_of n = q31_32_exact (signed_of 0x8000_0000 (n / 0x1_0000_0000)) (n % 0x1_0000_0000)

-- at a place: 0 where its bytes are not all there
unfoldable pub exact_at : List ℕ → ℕ → Exact
exact_at s at = cond (leb (at + 8) (length s)) (exact_of (big_endian (take 8 (drop at s)))) (exact_of 0)
