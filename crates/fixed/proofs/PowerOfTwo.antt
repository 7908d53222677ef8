-- Over a power of two the quotient is exact, so that the reading of two parts is their number rounded once. Once for both formats. Assumes nothing.
use Prim.Native.Nat.{ℕ, ◌^◌, ◌≤◌}
use mathlib.Core.Path.{◌≡◌}
use mathlib.Core.Bool.{false}
use native.Mathlib.Nat.{le_trans}
use lib.IntN.{ℤ, nat_abs}
use lib.Pow.{pow_pos, pow_mono}
use lib.Ieee.{Format, prec}
use lib.Ieee.Exact.{HasValue}
use Rattle.fixed.specs.Distance.{rounded}
use Rattle.fixed.specs.Fixed.{exact_form, quotient, sum_in}
use Rattle.fixed.proofs.Held.{held_over_power, finest}
use Rattle.fixed.proofs.Quotient.{quotient_once}
use Rattle.fixed.proofs.Sum.{one_rounding}

module _ (f : Format) (k low : ℕ) (K : k ≤ prec f) (l : low ≤ 2 ^ prec f) where
  pub quotient_exact : HasValue (quotient f (2 ^ k) low) false low (2 ^ k)
  quotient_exact = rw (quotient_once f (2 ^ k) low (pow_pos k) (pow_mono K) l) (held_over_power f false low k l (le_trans K (finest f)))

  pub reading_once : (high : ℤ) → nat_abs high ≤ 2 ^ prec f → sum_in f (2 ^ k) high low ≡ rounded f (exact_form (2 ^ k) high low)
  reading_once high h = one_rounding f high (quotient f (2 ^ k) low) low (2 ^ k) h (pow_pos k) quotient_exact
