-- The bits of floats, with one pattern for every NaN: the arithmetic here knows one NaN (docs/DECISIONS.md, 22), and in runs NaNs match.
-- Assumes nothing: these are definitions.
use Rattle.std.specs.Prelude.{ℕ, cond, Float}
use Rattle.std.specs.Float.{binary32, binary64}
use Rattle.std.specs.Float.Ieee.{is_nan, to_bits}

-- of an f32: a NaN is 7fc00000, and any other its own bits
unfoldable pub single_bits : Float → ℕ
single_bits x = cond (is_nan x) 0x7fc0_0000 (to_bits binary32 x)

-- of an f64: a NaN is 7ff8000000000000, and any other its own bits
unfoldable pub double_bits : Float → ℕ
double_bits x = cond (is_nan x) 0x7ff8_0000_0000_0000 (to_bits binary64 x)
