-- A number of two parts, high + low / d, rounded once: it is off by half a unit at most, and by nothing where the format has digits enough. Assumes nothing.
use Prim.Native.Nat.{ℕ, suc, ◌+◌, ◌*◌, ◌^◌, ◌≤◌, ◌<◌}
use mathlib.Core.Bool.{true, false}
use native.Mathlib.Nat.{le_trans, mul-le-mul_right}
use native.Mathlib.Omega.{arith}
use lib.IntN.{ℤ, pos, negsuc, nat_abs, ◌+ℤ◌, ◌*ℤ◌}
use lib.Pow.{pow-add, pow_mono}
use lib.Signed.{mag, nat_abs-le}
use lib.Ieee.{Float, Format, prec, round}
use Rattle.fixed.specs.Distance.{Equals, Within, rounded}
use Rattle.fixed.specs.Fixed.{exact_form}
use Rattle.fixed.proofs.Difference.{over, under, sides, in_range, two_parts}
use Rattle.fixed.proofs.Held.{held_over_power, range, finest}
use Rattle.fixed.proofs.Near.{Near, within, equals}
use Rattle.fixed.proofs.Once.{once_near, exact_form_once}

-- ---- what is near over natural numbers is near over whole ones

pub within_parts : (x : Float) (d : ℕ) (high : ℤ) (low p q : ℕ) → Near x (over high * d + low) (under high * d) d p q → Within x (exact_form d high low) p q
within_parts x d high low p q h = rw (two_parts high d low) (within x (over high * d + low) (under high * d) d p q h)

-- ---- half a unit, for a high part of j bits and a sign

module _ (f : Format) (d : ℕ) (high : ℤ) (low j : ℕ) (D : 0 < d) (h : mag high < 2 ^ j) (l : low ≤ d) (J : j ≤ prec f) where
  pub two_parts_near : Near (rounded f (exact_form d high low)) (over high * d + low) (under high * d) d (2 ^ j) (2 ^ prec f * 2)
  two_parts_near =
      let a = over high * d + low in
      let b = under high * d in
      let k = sides high (2 ^ j) h in
      let most : a ≤ b + 2 ^ j * d = omega (arith, mul-le-mul_right d k.0) in
      let least : b ≤ a + 2 ^ j * d = omega (arith, mul-le-mul_right d k.1) in
      rw (exact_form_once f d low high) (once_near f a b d j D most least (omega (arith, range f)))

  pub two_parts_within : Within (rounded f (exact_form d high low)) (exact_form d high low) (2 ^ j) (2 ^ prec f * 2)
  two_parts_within = within_parts (rounded f (exact_form d high low)) d high low (2 ^ j) (2 ^ prec f * 2) two_parts_near

-- ---- nothing, for a high part of i bits and a sign and a low part of k bits, i + k of the format's digits at most

-- a fraction over a power of two
rounded_is : (f : Format) (z : ℤ) (k : ℕ) → nat_abs z ≤ 2 ^ prec f → k ≤ prec f → Equals (rounded f (record { numerator = z; denominator = 2 ^ k })) (record { numerator = z; denominator = 2 ^ k })
rounded_is f (pos n) k h K = equals (round f false n (2 ^ k)) false n (2 ^ k) (held_over_power f false n k h (le_trans K (finest f)))
rounded_is f (negsuc n) k h K = equals (round f true (suc n) (2 ^ k)) true (suc n) (2 ^ k) (held_over_power f true (suc n) k h (le_trans K (finest f)))

module _ (f : Format) (k : ℕ) (high : ℤ) (low i : ℕ) (h : mag high < 2 ^ i) (l : low < 2 ^ k) (P : i + k ≤ prec f) where
  pub two_parts_is : Equals (rounded f (exact_form (2 ^ k) high low)) (exact_form (2 ^ k) high low)
  two_parts_is =
      let m = sides high (2 ^ i) h in
      let e = pow-add 2 i k in
      let most : over high * 2 ^ k + low < 2 ^ (i + k) = omega (arith, mul-le-mul_right (2 ^ k) m.0) in
      let least : under high * 2 ^ k ≤ 2 ^ (i + k) = omega (arith, mul-le-mul_right (2 ^ k) m.1) in
      let z = high *ℤ pos (2 ^ k) +ℤ pos low in
      let size : mag z < 2 ^ (i + k) = rw (two_parts high (2 ^ k) low) (in_range _ _ _ most least) in
      rounded_is f z k (le_trans (nat_abs-le z size) (pow_mono P)) (omega arith)
