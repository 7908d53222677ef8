-- Over any divisor the reading of two parts is off by half a unit of the sum and half a unit of the quotient at most. Once for both formats. Assumes nothing.
use Prim.Native.Nat.{ℕ, ◌+◌, ◌*◌, ◌^◌, ◌≤◌, ◌<◌}
use mathlib.Core.Path.{refl}
use mathlib.Core.Bool.{false}
use native.Mathlib.Nat.{le_trans}
use native.Mathlib.Omega.{arith}
use lib.IntN.{ℤ}
use lib.Pow.{pow_mono}
use lib.Signed.{mag, nat_abs-le}
use lib.Ieee.{Float, nan, inf, fin, Format, prec, up, down, round, add, of_int}
use lib.Ieee.Fits.{down_pos}
use Rattle.fixed.specs.Distance.{Within, rounded}
use Rattle.fixed.specs.Fixed.{exact_form, sum_in}
use Rattle.fixed.proofs.Difference.{over, under}
use Rattle.fixed.proofs.Held.{range}
use Rattle.fixed.proofs.Near.{Close, Near, Sized, near_by}
use Rattle.fixed.proofs.Quotient.{Fraction, quotient_once, at_most_one}
use Rattle.fixed.proofs.Rounding.{half_unit}
use Rattle.fixed.proofs.Sum.{one_rounding}
use Rattle.fixed.proofs.TwoParts.{two_parts_near, within_parts}

-- ---- the sum of a whole number and a float from 0 to 1 that is within r / q of low / d, where half a unit is 2 ^ j / q

-- a whole number added to both leaves two fractions as far apart
moved : (a b g u low d r q : ℕ) → Close g 0 u low 0 d r q → Close (a * u + g) (b * u) u (a * d + low) (b * d) d r q
moved a b g u low d r q h = omega arith

module _ (f : Format) (d : ℕ) (high : ℤ) (low j r : ℕ) (h : mag high < 2 ^ j) (J : j ≤ prec f) where
  sum_near : (y : Float) → Fraction y → Sized y false low d r (2 ^ prec f * 2) → Near (add f (of_int f high) y) (over high * d + low) (under high * d) d (2 ^ j + r) (2 ^ prec f * 2)
  sum_near nan i k = absurd i
  sum_near (inf s) i k = absurd i
  sum_near (fin s n e) i k =
      let g = n * up e in
      let u = down e in
      rw (one_rounding f high (fin s n e) g u (le_trans (nat_abs-le high h) (pow_mono J)) (down_pos e) (i.0, refl))
      (near_by (rounded f (exact_form u high g)) _ _ u _ _ d (2 ^ j) r _ (down_pos e) (two_parts_near f u high g j (down_pos e) h i.1 J) (moved (over high) (under high) g u low d r _ k.1))

  pub sum_within : (y : Float) → Fraction y → Sized y false low d r (2 ^ prec f * 2) → Within (add f (of_int f high) y) (exact_form d high low) (2 ^ j + r) (2 ^ prec f * 2)
  sum_within y i k = within_parts (add f (of_int f high) y) d high low (2 ^ j + r) (2 ^ prec f * 2) (sum_near y i k)

-- ---- so the reading, whose quotient is half a unit off too

pub reading_within : (f : Format) (d : ℕ) (high : ℤ) (low j : ℕ) → 0 < d → d ≤ 2 ^ prec f → low ≤ d → mag high < 2 ^ j → j ≤ prec f
    → Within (sum_in f d high low) (exact_form d high low) (2 ^ j + 1) (2 ^ prec f * 2)
reading_within f d high low j D P l h J =
    rw (quotient_once f d low D P (le_trans l P))
    (sum_within f d high low j 1 h J (round f false low d) (at_most_one f low d D l) (half_unit f false low d 0 D (omega arith) (omega (arith, range f))))
