-- A float quotient of two whole numbers is the exact one, rounded once; where the first is no larger than the second it is 1 at most.
-- Once for both formats. Assumes nothing.
use Prim.Native.Nat.{ℕ, zero, suc, ◌*◌, ◌^◌, ◌≤◌, ◌<◌}
use mathlib.Core.Path.{◌≡◌, ap, ◌∙◌}
use mathlib.Core.Bool.{Bool, true, false, ◌&&◌, ◌||◌}
use native.Mathlib.Nat.{ne_of_gt, mul-pos, zero-lt-suc, le_of_lt, le_of_eq, le_of_mul-le-mul_right}
use native.Mathlib.Omega.{arith}
use borrow.Author.Tests.{ne_eqb}
use lib.Dec.{T, ltb, eqb, ltb→lt, eqb→eq, lit<}
use lib.IntN.{ℤ, pos}
use lib.Pow.{pow_pos}
use lib.Ieee.{Float, nan, inf, fin, Format, prec, up, down, round, div, le, lt, eq}
use lib.Ieee.Back.{round_whole}
use lib.Ieee.Exact.{HasValue}
use lib.Ieee.Fits.{up_pos, down_pos}
use lib.Ieee.Order.{round_mono}
use lib.Ieee.Scale.{round_same}
use Rattle.fixed.specs.Fixed.{quotient}
use Rattle.fixed.proofs.Held.{whole, range}
use Rattle.fixed.proofs.Near.{Sized}
use Rattle.fixed.proofs.Rounding.{half_unit}

-- ---- the quotient

div_is : (f : Format) (m : ℕ) (e : ℤ) (n : ℕ) (d : ℤ) → 0 < n → div f (fin false m e) (fin false n d) ≡ round f false (m * up e * down d) (n * up d * down e)
unfolding div
div_is f m e n d h = simp (ne_eqb n 0 (ne_of_gt h))

-- what is above zero has an m above zero
above_zero : (n u b d : ℕ) → n * u * 1 ≡ b * d → 0 < b → 0 < d → 0 < n
above_zero zero u b d e B D = omega (arith, mul-pos B D)
above_zero (suc n) u b d e B D = zero-lt-suc n

div_once : (f : Format) (x y : Float) (a b : ℕ) → 0 < b → HasValue x false a 1 → HasValue y false b 1 → div f x y ≡ round f false a b
div_once f nan y a b B v w = absurd v
div_once f (inf s) y a b B v w = absurd v
div_once f (fin s m e) nan a b B v w = absurd w
div_once f (fin s m e) (inf t) a b B v w = absurd w
div_once f (fin s m e) (fin t n d) a b B v w =
    let N : 0 < n = above_zero n (up d) b (down d) w.1 B (down_pos d) in
    let k = ap (λ (x : ℕ). x * (down d * b)) v.1 in
    let l = ap (λ (x : ℕ). x * (down e * a)) w.1 in
    rw (v.0, w.0) (div_is f m e n d N)
    ∙ round_same f false (m * up e * down d) (n * up d * down e) a b (mul-pos (mul-pos N (up_pos d)) (down_pos e)) B (omega arith)

pub quotient_once : (f : Format) (d low : ℕ) → 0 < d → d ≤ 2 ^ prec f → low ≤ 2 ^ prec f → quotient f d low ≡ round f false low d
quotient_once f d low D h k = div_once f _ _ low d D (whole f (pos low) k) (whole f (pos d) h)

-- ---- at most 1

-- x is from 0 to 1
abbrev pub Fraction : Float → Type 0
Fraction nan = ⊥
Fraction (inf s) = ⊥
Fraction (fin s m e) = (s ≡ false) × (m * up e ≤ down e)

either : (a b : ℕ) (r : Bool) → T (ltb a b || (eqb a b && r)) → a ≤ b
either a b r = go (ltb a b) (eqb a b) (ltb→lt a b) (eqb→eq a b)
  where
    go : (p q : Bool) → (T p → a < b) → (T q → a ≡ b) → T (p || (q && r)) → a ≤ b
    go true q h k t = le_of_lt (h tt)
    go false true h k t = le_of_eq (k tt)
    go false false h k t = absurd t

ordered : (m : ℕ) (e : ℤ) (n : ℕ) (d : ℤ) → T (le (fin false m e) (fin false n d)) → m * up e * down d ≤ n * up d * down e
unfolding le lt eq
ordered m e n d = either (m * up e * down d) (n * up d * down e) true

below_one : (x y : Float) (n c p q : ℕ) → Sized x false n c p q → HasValue y false 1 1 → T (le x y) → Fraction x
below_one nan y n c p q h w t = h
below_one (inf s) y n c p q h w t = h
below_one (fin s m e) nan n c p q h w t = absurd w
below_one (fin s m e) (inf r) n c p q h w t = absurd w
below_one (fin s m e) (fin r k d) n c p q h w t =
    let o = ordered m e k d (rw (h.0, w.0) at t) in
    let l = ap (λ (x : ℕ). x * down e) w.1 in
    let g : m * up e * down d ≤ down e * down d = omega arith in
    (h.0, le_of_mul-le-mul_right g (down_pos d))

pub at_most_one : (f : Format) (n c : ℕ) → 0 < c → n ≤ c → Fraction (round f false n c)
at_most_one f n c C h =
    below_one (round f false n c) (round f false 1 1) n c (2 ^ 0) (2 ^ prec f * 2) (half_unit f false n c 0 C (omega arith) (omega (arith, range f)))
    (round_whole f false 1 (pow_pos (prec f))) (round_mono f n c 1 1 C (lit< tt) (omega arith))
