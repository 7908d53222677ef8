-- A quaternion scaled. Document 01, Values: "four numbers w x y z .. Scaled in f64 .. x is negated in 16 bits first, so -32,768 stays -32,768."
-- Assumes nothing: these are definitions.
use Rattle.std.specs.Prelude.{ℤ, neg_ℤ, Float}
use Rattle.std.specs.Float.{binary64}
use Rattle.std.specs.Float.Ieee.{div, of_int}
use Rattle.std.specs.Int.{w16}
use Rattle.std.proofs.Common.{to_z, of_z}
use Rattle.scaling.specs.declared.Quaternion.{Quaternion}

-- 0 less x in 16 bits: its bits (`of_z`), which wrap, read as a signed number (`to_z`). 32,768 is one more than they hold, and is -32,768
unfoldable pub negated16 : ℤ → ℤ
negated16 x = to_z w16 (of_z w16 (neg_ℤ x))

-- a whole number over the scale: an exact cast, and one division in f64
abbrev pub over : Float → ℤ → Float
over scale n = div binary64 (of_int binary64 n) scale

-- THE QUATERNION of w x y z over the scale
unfoldable pub scaled_by : Float → ℤ → ℤ → ℤ → ℤ → Quaternion
scaled_by scale w x y z = record { w = over scale w; x = over scale (negated16 x); y = over scale y; z = over scale z }
