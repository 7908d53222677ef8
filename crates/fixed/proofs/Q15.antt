-- The laws of q, for all parts: its division is exact, its sum rounds once, exact from -256 to 255 and within 1/1024 elsewhere. Assumes nothing.
use Prim.Native.Nat.{ℕ, ◌*◌, ◌<◌, ◌≤◌, ◌^◌}
use mathlib.Core.Path.{◌≡◌, refl, ap, ◌∙◌}
use mathlib.Core.Bool.{false}
use native.Mathlib.Omega.{arith}
use lib.Dec.{lit<, lit≤}
use lib.IntN.{ℤ, pos, nat_abs}
use lib.Signed.{mag, nat_abs-le}
use lib.Ieee.{fin, binary32, add, div, of_int}
use Rattle.fixed.specs.Distance.{Equals, Within, rounded}
use Rattle.fixed.specs.Fixed.{divisor15_16, quotient, q15_16, q15_16_exact}
use Rattle.fixed.specs.Laws.{Parts15_16, ExactDivision, RoundedOnce, ExactSum, NoWider, Within1024th, Attained}
use Rattle.fixed.proofs.Near.{equals, looser}
use Rattle.fixed.proofs.PowerOfTwo.{quotient_exact, reading_once}
use Rattle.fixed.proofs.Range.{bounded, ranged}
use Rattle.fixed.proofs.TwoParts.{two_parts_is, two_parts_within}

pub exact_division : ExactDivision
exact_division low h = equals (quotient binary32 divisor15_16 low) false low divisor15_16 (quotient_exact binary32 16 low (lit≤ tt) (omega arith))

pub rounded_once : RoundedOnce
unfolding q15_16 q15_16_exact
rounded_once high low h =
    let m : mag high < 32768 = bounded 32768 high (lit< tt) (lit< tt) h.signed in
    let k : nat_abs high ≤ 2 ^ 24 = omega (arith, nat_abs-le high m) in
    let l : low ≤ 2 ^ 24 = omega (arith, h.unsigned) in
    reading_once binary32 16 low (lit≤ tt) l high k

-- what the number of q rounds to: that number itself, ..
small_is : (high : ℤ) (low : ℕ) → mag high < 256 → low < 65536 → Equals (rounded binary32 (q15_16_exact high low)) (q15_16_exact high low)
unfolding q15_16_exact
small_is high low h l = two_parts_is binary32 16 high low 8 h l (lit≤ tt)

-- .. or one that is half a unit off
rounded_near : (high : ℤ) (low : ℕ) → mag high < 32768 → low < 65536 → Within (rounded binary32 (q15_16_exact high low)) (q15_16_exact high low) (2 ^ 15) (2 ^ 25)
unfolding q15_16_exact
rounded_near high low h l = two_parts_within binary32 divisor15_16 high low 15 (lit< tt) h (omega arith) (lit≤ tt)

pub exact_sum : ExactSum
exact_sum high low h l =
    let m : mag high < 256 = bounded 256 high (lit< tt) (lit< tt) h in
    let parts : Parts15_16 high low = record { signed = ranged 32767 high (omega arith); unsigned = l } in
    rw (rounded_once high low parts) (small_is high low m l)

pub within_1024th : Within1024th
within_1024th high low h =
    let m : mag high < 32768 = bounded 32768 high (lit< tt) (lit< tt) h.signed in
    rw (rounded_once high low h) (looser (rounded binary32 (q15_16_exact high low)) (q15_16_exact high low) (2 ^ 15) (2 ^ 25) _ _ (lit< tt) (lit≤ tt) (rounded_near high low m h.unsigned))

-- by computing: the two whole numbers that would have to be equal
pub no_wider : NoWider
unfolding q15_16 q15_16_exact add div of_int
no_wider = (λ e. omega (arith, ap nat_abs e), λ e. omega (arith, ap nat_abs e))

-- by computing: the distance is 64 / 65536
computed : q15_16 (pos 16384) 64 ≡ fin false 1 (pos 14)
unfolding q15_16 add div of_int
computed = refl

whole : fin false 1 (pos 14) ≡ of_int binary32 (pos 16384)
unfolding of_int
whole = refl

distance : (p q : ℕ) → Within (fin false 1 (pos 14)) (q15_16_exact (pos 16384) 64) p q → 64 * q ≤ p * 65536
unfolding q15_16_exact
distance p q h = h

pub attained : Attained
attained = (computed ∙ whole, λ p q h. omega (arith, distance p q (rw computed at h)))
