-- A fraction (a - b) / c rounded once: by its sign, alike for equal fractions, and off by half a unit at most. Assumes nothing.
use Prim.Native.Nat.{ℕ, suc, ◌+◌, ◌-◌, ◌*◌, ◌^◌, ◌≤◌, ◌<◌}
use mathlib.Core.Path.{◌≡◌, sym, ap, ◌∙◌}
use mathlib.Core.Bool.{true, false}
use native.Mathlib.Decide.{dec_lt}
use native.Mathlib.Nat.{mul-le-mul_right, mul-lt-mul_of_pos_right, lt_of_mul-lt-mul_right, le_of_mul-le-mul_right}
use native.Mathlib.Omega.{arith}
use lib.IntN.{ℤ, sub_ℕ}
use lib.Ieee.{Float, Format, prec, emax, round}
use lib.Ieee.Scale.{round_same}
use Rattle.fixed.specs.Distance.{rounded}
use Rattle.fixed.specs.Fixed.{exact_form}
use Rattle.fixed.proofs.Difference.{over, under, below, not_below, two_parts}
use Rattle.fixed.proofs.Near.{Near, near_of_size}
use Rattle.fixed.proofs.Rounding.{half_unit}

-- ---- by its sign

abbrev pub once : Format → ℕ → ℕ → ℕ → Float
once f a b c = rounded f (record { numerator = sub_ℕ a b; denominator = c })

pub once_up : (f : Format) (a b c : ℕ) → b ≤ a → once f a b c ≡ round f false (a - b) c
once_up f a b c h = rw (not_below a b h)

pub once_down : (f : Format) (a b c : ℕ) → a < b → once f a b c ≡ round f true (b - a) c
once_down f a b c h =
    let e : suc (b - suc a) ≡ b - a = omega arith in
    rw (below a b h, e)

-- ---- equal fractions round alike

pub same : (f : Format) (a b c x y z : ℕ) → 0 < c → 0 < z → a * z + y * c ≡ x * c + b * z → once f a b c ≡ once f x y z
same f a b c x y z C Z e = go (dec_lt a b)
  where
    times : (d m n k : ℕ) → d + m ≡ n → d * k + m * k ≡ n * k
    times d m n k i = let h = ap (λ (v : ℕ). v * k) i in omega arith

    go : Dec (a < b) → once f a b c ≡ once f x y z
    go (yes h) =
        let k : x * c < y * c = omega (arith, mul-lt-mul_of_pos_right h Z) in
        let l : x < y = lt_of_mul-lt-mul_right c k in
        once_down f a b c h
        ∙ round_same f true (b - a) c (y - x) z C Z (omega (arith, times (b - a) a b z (omega arith), times (y - x) x y c (omega arith)))
        ∙ sym (once_down f x y z l)
    go (no h) =
        let m : b ≤ a = omega arith in
        let k : y * c ≤ x * c = omega (arith, mul-le-mul_right z m) in
        let l : y ≤ x = le_of_mul-le-mul_right k C in
        once_up f a b c m
        ∙ round_same f false (a - b) c (x - y) z C Z (omega (arith, times (a - b) b a z (omega arith), times (x - y) y x c (omega arith)))
        ∙ sym (once_up f x y z l)

-- ---- half a unit

pub once_near : (f : Format) (a b c j : ℕ) → 0 < c → a ≤ b + 2 ^ j * c → b ≤ a + 2 ^ j * c → j + prec f ≤ emax f → Near (once f a b c) a b c (2 ^ j) (2 ^ prec f * 2)
once_near f a b c j C h k J = go (dec_lt a b)
  where
    go : Dec (a < b) → Near (once f a b c) a b c (2 ^ j) (2 ^ prec f * 2)
    go (yes l) =
        let n : b - a ≤ 2 ^ j * c = omega arith in
        rw (once_down f a b c l) (near_of_size (round f true (b - a) c) true (b - a) a b c (2 ^ j) (2 ^ prec f * 2) (omega arith) (half_unit f true (b - a) c j C n J))
    go (no l) =
        let m : b ≤ a = omega arith in
        let n : a - b ≤ 2 ^ j * c = omega arith in
        rw (once_up f a b c m) (near_of_size (round f false (a - b) c) false (a - b) a b c (2 ^ j) (2 ^ prec f * 2) (omega arith) (half_unit f false (a - b) c j C n J))

-- ---- two parts

pub exact_form_once : (f : Format) (d low : ℕ) (high : ℤ) → rounded f (exact_form d high low) ≡ once f (over high * d + low) (under high * d) d
exact_form_once f d low high = ap (λ (z : ℤ). rounded f (record { numerator = z; denominator = d })) (two_parts high d low)
