-- Fixed-point numbers, q and Q: what a high and a low part stand for, exactly and in floats.
-- GPMF description, Types (q is Q15.16, Q is Q31.32); document 01, Values. Assumes nothing: these are definitions.
use Rattle.std.specs.Prelude.{ℕ, ℤ, pos, ◌+ℤ◌, ◌*ℤ◌, Float}
use Rattle.std.specs.Float.{Format, binary32, binary64}
use Rattle.std.specs.Float.Ieee.{add, div, of_int}
use Rattle.fixed.specs.declared.Exact.{Exact}

-- ---- a whole part and a fraction: high + low / divisor

-- as two whole numbers: high × divisor + low, and the divisor (document 01, Values)
abbrev pub exact_form : ℕ → ℤ → ℕ → Exact
exact_form divisor high low = record { numerator = high *ℤ pos divisor +ℤ pos low; denominator = divisor }

-- low / divisor in a format of floats
abbrev pub quotient : Format → ℕ → ℕ → Float
quotient f divisor low = div f (of_int f (pos low)) (of_int f (pos divisor))

-- high + low / divisor, each operation in that format
abbrev pub sum_in : Format → ℕ → ℤ → ℕ → Float
sum_in f divisor high low = add f (of_int f high) (quotient f divisor low)

-- ---- q, Q15.16

-- a fraction of 16 bits counts in units of 1/65536 (GPMF description, Types)
abbrev pub divisor15_16 : ℕ
divisor15_16 = 65536

-- the number itself: "a 16-bit whole part and a 16-bit fraction" (GPMF description, Types)
unfoldable pub q15_16_exact : ℤ → ℕ → Exact
q15_16_exact high low = exact_form divisor15_16 high low

-- "signed 16-bit part plus unsigned 16-bit part / 65536, in f32" (document 01, Values)
unfoldable pub q15_16 : ℤ → ℕ → Float
q15_16 high low = sum_in binary32 divisor15_16 high low

-- ---- Q, Q31.32

-- one less than what "a 32-bit fraction" counts to (GPMF description, Types): the Rust's divisor (document 01, Values)
abbrev pub divisor31_32 : ℕ
divisor31_32 = 4294967295

-- "the exact form, two whole numbers: high × 4294967295 + low, and 4294967295" (document 01, Values)
unfoldable pub q31_32_exact : ℤ → ℕ → Exact
q31_32_exact high low = exact_form divisor31_32 high low

-- "signed 32-bit part plus unsigned 32-bit part / 4294967295, each operation in f64" (document 01, Values)
unfoldable pub q31_32 : ℤ → ℕ → Float
q31_32 high low = sum_in binary64 divisor31_32 high low
