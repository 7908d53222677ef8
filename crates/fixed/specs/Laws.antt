-- What document 01 says of q and Q, as statements over whole numbers. proofs/Q15.antt and proofs/Q31.antt show each, for all parts at once.
-- Assumes nothing: these are definitions.
use Rattle.std.specs.Prelude.{ℕ, ◌*◌, ◌^◌, ◌≤◌, ◌<◌, ◌≡◌, ℤ, pos, neg_ℤ, ◌≤ℤ◌}
use Rattle.std.specs.Float.{binary32, binary64}
use Rattle.std.specs.Float.Ieee.{of_int}
use Rattle.fixed.specs.Distance.{Equals, Within, rounded}
use Rattle.fixed.specs.Fixed.{quotient, divisor15_16, q15_16, q15_16_exact, q31_32, q31_32_exact}

-- a whole number from a to b
pub record FromTo (a b z : ℤ) : Type 0 where
  pub least : a ≤ℤ z
  pub most : z ≤ℤ b

-- ---- q

-- a "signed 16-bit part" and an "unsigned 16-bit part" (document 01, Values)
pub record Parts15_16 (high : ℤ) (low : ℕ) : Type 0 where
  pub signed : FromTo (neg_ℤ (pos 32768)) (pos 32767) high
  pub unsigned : low < 65536

-- "one exact division .." (document 01, Matching forms to places)
abbrev pub ExactDivision : Type 0
ExactDivision = (low : ℕ) → low < 65536 → Equals (quotient binary32 divisor15_16 low) (record { numerator = pos low; denominator = 65536 })

-- ".. and one rounded add": q is what its number rounds to
abbrev pub RoundedOnce : Type 0
RoundedOnce = (high : ℤ) (low : ℕ) → Parts15_16 high low → q15_16 high low ≡ rounded binary32 (q15_16_exact high low)

-- "Exact for a high part of -256 to 255, .." (document 01, Values)
abbrev pub ExactSum : Type 0
ExactSum = (high : ℤ) (low : ℕ) → FromTo (neg_ℤ (pos 256)) (pos 255) high → low < 65536 → Equals (q15_16 high low) (q15_16_exact high low)

-- and for no wider range: with a low part of 1, 256 and -257 are not
abbrev pub NoWider : Type 0
NoWider = (¬ Equals (q15_16 (pos 256) 1) (q15_16_exact (pos 256) 1)) × (¬ Equals (q15_16 (neg_ℤ (pos 257)) 1) (q15_16_exact (neg_ℤ (pos 257)) 1))

-- ".. else within 1/1024" (document 01, Values)
abbrev pub Within1024th : Type 0
Within1024th = (high : ℤ) (low : ℕ) → Parts15_16 high low → Within (q15_16 high low) (q15_16_exact high low) 1 1024

-- which is attained: the bytes 40000040, parts 16384 and 64, read as exactly 16384, and p / q must be 1/1024 at least
abbrev pub Attained : Type 0
Attained = (q15_16 (pos 16384) 64 ≡ of_int binary32 (pos 16384)) × ((p q : ℕ) → Within (q15_16 (pos 16384) 64) (q15_16_exact (pos 16384) 64) p q → q ≤ p * 1024)

-- ---- Q

-- a "signed 32-bit part" and an "unsigned 32-bit part" (document 01, Values)
pub record Parts31_32 (high : ℤ) (low : ℕ) : Type 0 where
  pub signed : FromTo (neg_ℤ (pos 2147483648)) (pos 2147483647) high
  pub unsigned : low < 4294967296

-- "the f64 lies within 2^-22 of it" (document 01, Values)
abbrev pub WithinTwoToMinus22 : Type 0
WithinTwoToMinus22 = (high : ℤ) (low : ℕ) → Parts31_32 high low → Within (q31_32 high low) (q31_32_exact high low) 1 (2 ^ 22)

-- "Q with parts 0 and 4294967295: exactly 1" (document 01, Cases, 8), the f64 and the exact form; kept beside the list in `theorems`, which has the f64 alone, for
-- the edit that puts another low part into it
abbrev pub Case8 : Type 0
Case8 = (q31_32 (pos 0) 4294967295 ≡ of_int binary64 (pos 1)) × Equals (of_int binary64 (pos 1)) (q31_32_exact (pos 0) 4294967295)
