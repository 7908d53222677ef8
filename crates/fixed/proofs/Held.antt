-- Which fractions a format holds, so that rounding changes nothing: those of so many digits as it has. Once for both formats. Assumes nothing.
use Prim.Native.Nat.{ℕ, suc, ◌+◌, ◌-◌, ◌*◌, ◌^◌, ◌≤◌, ◌<◌}
use mathlib.Core.Path.{◌≡◌, sym, ap, ◌∙◌}
use mathlib.Core.Bool.{Bool, true, false, not}
use mathlib.Core.Logic.{◌⊎◌, inl, inr}
use native.Mathlib.Nat.{eq-or-lt_of_le, one-mul, mul_assoc}
use native.Mathlib.Omega.{arith}
use lib.IntN.{ℤ, pos, negsuc, nat_abs}
use lib.Signed.{non_neg}
use lib.Dec.{lit<, lit≤}
use lib.Pow.{pow-add, pow_pos, pow-lt, shl_lt}
use lib.Ieee.{Format, binary32, binary64, prec, emax, low, round, of_int}
use lib.Ieee.Back.{round_whole}
use lib.Ieee.Exact.{HasValue, round_exact}

-- ---- of the two formats: more than one digit, ..

one_digit : (f : Format) → 1 < 2 ^ prec f
one_digit binary32 = lit< tt
one_digit binary64 = lit< tt

-- .. exponents beyond twice the digits, ..
pub range : (f : Format) → prec f + prec f ≤ emax f
range binary32 = lit≤ tt
range binary64 = lit≤ tt

-- .. and all digits behind the point too
pub finest : (f : Format) → prec f ≤ low f
finest binary32 = lit≤ tt
finest binary64 = lit≤ tt

-- ---- q of 2 ^ j times the smallest value of the format, q up to 2 ^ prec

pub held : (f : Format) (s : Bool) (n c q j : ℕ) → 0 < c → q ≤ 2 ^ prec f → j + prec f < low f + suc (emax f) → n * 2 ^ low f ≡ q * 2 ^ j * c → HasValue (round f s n c) s n c
held f s n c q j C h J e = go (eq-or-lt_of_le h)
  where
    most : 2 ^ (prec f + j) < 2 ^ (low f + suc (emax f))
    most = pow-lt (omega arith)

    go : (q ≡ 2 ^ prec f) ⊎ (q < 2 ^ prec f) → HasValue (round f s n c) s n c
    go (inl i) = round_exact f s n c 1 (prec f + j) C (one_digit f) (rw one-mul most) (rw (one-mul, pow-add 2 (prec f) j, ← i) e)
    go (inr l) = round_exact f s n c q j C l (omega (arith, most, shl_lt (prec f) j l)) e

-- n / 2 ^ k, n up to 2 ^ prec
pub held_over_power : (f : Format) (s : Bool) (n k : ℕ) → n ≤ 2 ^ prec f → k ≤ low f → HasValue (round f s n (2 ^ k)) s n (2 ^ k)
held_over_power f s n k h K =
    let back : low f ≡ low f - k + k = omega arith in
    held f s n (2 ^ k) n (low f - k) (pow_pos k) h (omega (arith, range f))
    (ap (λ (x : ℕ). n * 2 ^ x) back ∙ ap (λ (x : ℕ). n * x) (pow-add 2 (low f - k) k) ∙ sym (mul_assoc n (2 ^ (low f - k)) (2 ^ k)))

-- a whole number up to 2 ^ prec, cast to a float
pub whole : (f : Format) (z : ℤ) → nat_abs z ≤ 2 ^ prec f → HasValue (of_int f z) (not (non_neg z)) (nat_abs z) 1
unfolding of_int
whole f (pos n) h = round_whole f false n h
whole f (negsuc n) h = round_whole f true (suc n) h
