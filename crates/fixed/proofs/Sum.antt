-- A float sum whose second summand is not negative is the exact sum, rounded once. Once for both formats. Assumes nothing.
use Prim.Native.Nat.{ℕ, suc, ◌+◌, ◌-◌, ◌*◌, ◌^◌, ◌≤◌, ◌<◌}
use mathlib.Core.Path.{◌≡◌, refl, sym, ap, ◌∙◌}
use mathlib.Core.Bool.{Bool, true, false, cond}
use native.Mathlib.Decide.{dec_lt}
use native.Mathlib.Nat.{zero-add, mul-pos}
use native.Mathlib.Omega.{arith}
use borrow.Author.Tests.{lt-ltb, le-ltb}
use lib.Dec.{ltb}
use lib.IntN.{ℤ, pos, negsuc, nat_abs}
use lib.Ieee.{Float, nan, inf, fin, Format, prec, up, down, round, sum, add, of_int}
use lib.Ieee.Exact.{HasValue}
use lib.Ieee.Fits.{down_pos}
use Rattle.fixed.specs.Distance.{rounded}
use Rattle.fixed.specs.Fixed.{exact_form}
use Rattle.fixed.proofs.Difference.{plus, minus}
use Rattle.fixed.proofs.Held.{whole}
use Rattle.fixed.proofs.Once.{once, once_up, once_down, same, exact_form_once}

-- ---- the sum of two fractions over c, the second one not negative

both_up : (f : Format) (a b c : ℕ) → sum f false a false b c ≡ round f false (a + b) c
unfolding sum
both_up f a b c = refl

-- -a and b: the larger one gives the sign
opposed : (f : Format) (a b c : ℕ) → sum f true a false b c ≡ cond (ltb a b) (round f false (b - a) c) (round f (ltb b a) (a - b) c)
unfolding sum
opposed f a b c = refl

opposed_down : (f : Format) (a b c : ℕ) → b < a → sum f true a false b c ≡ round f true (a - b) c
opposed_down f a b c h =
    let l : b ≤ a = omega arith in
    opposed f a b c ∙ rw (le-ltb a b l, lt-ltb b a h)

opposed_up : (f : Format) (a b c : ℕ) → a ≤ b → sum f true a false b c ≡ round f false (b - a) c
opposed_up f a b c h = opposed f a b c ∙ go (dec_lt a b)
  where
    go : Dec (a < b) → cond (ltb a b) (round f false (b - a) c) (round f (ltb b a) (a - b) c) ≡ round f false (b - a) c
    go (yes k) = rw (lt-ltb a b k)
    go (no k) =
        let l : b ≤ a = omega arith in
        let e : a - b ≡ b - a = omega arith in
        rw (le-ltb a b l, le-ltb b a h, e)

sum_once : (f : Format) (s : Bool) (a b c : ℕ) → sum f s a false b c ≡ once f (plus s a + b) (minus s a) c
sum_once f false a b c =
    let e : a + b ≡ a + b - 0 = omega arith in
    both_up f a b c ∙ ap (λ (n : ℕ). round f false n c) e ∙ sym (once_up f (a + b) 0 c (omega arith))
sum_once f true a b c = rw (zero-add b) (go (dec_lt b a))
  where
    go : Dec (b < a) → sum f true a false b c ≡ once f b a c
    go (yes h) = opposed_down f a b c h ∙ sym (once_down f b a c h)
    go (no h) = let l : a ≤ b = omega arith in opposed_up f a b c l ∙ sym (once_up f b a c l)

-- ---- THE SUM of a whole number and a float that is g / u

add_is : (f : Format) (s t : Bool) (m : ℕ) (e : ℤ) (n : ℕ) (d : ℤ) → add f (fin s m e) (fin t n d) ≡ sum f s (m * up e * down d) t (n * up d * down e) (down e * down d)
unfolding add
add_is f s t m e n d = refl

add_once : (f : Format) (x y : Float) (s : Bool) (h g u : ℕ) → 0 < u → HasValue x s h 1 → HasValue y false g u → add f x y ≡ once f (plus s h * u + g) (minus s h * u) u
add_once f nan y s h g u U v w = absurd v
add_once f (inf r) y s h g u U v w = absurd v
add_once f (fin r m e) nan s h g u U v w = absurd w
add_once f (fin r m e) (inf t) s h g u U v w = absurd w
add_once f (fin r m e) (fin t n d) s h g u U v w =
    add_is f r t m e n d
    ∙ rw (v.0, w.0) (sum_once f s (m * up e * down d) (n * up d * down e) (down e * down d))
    ∙ same f _ _ (down e * down d) _ _ u (mul-pos (down_pos e) (down_pos d)) U (equal s)
  where
    first : m * up e * down d * u ≡ h * u * (down e * down d)
    first = let k = ap (λ (x : ℕ). x * (down d * u)) v.1 in omega arith

    second : n * up d * down e * u ≡ g * (down e * down d)
    second = let k = ap (λ (x : ℕ). x * down e) w.1 in omega arith

    equal : (s : Bool) → (plus s (m * up e * down d) + n * up d * down e) * u + minus s h * u * (down e * down d) ≡ (plus s h * u + g) * (down e * down d) + minus s (m * up e * down d) * u
    equal false = omega (arith, first, second)
    equal true = omega (arith, first, second)

pub one_rounding : (f : Format) (high : ℤ) (y : Float) (g u : ℕ) → nat_abs high ≤ 2 ^ prec f → 0 < u → HasValue y false g u → add f (of_int f high) y ≡ rounded f (exact_form u high g)
one_rounding f (pos n) y g u h U v = add_once f (of_int f (pos n)) y false n g u U (whole f (pos n) h) v ∙ sym (exact_form_once f u g (pos n))
one_rounding f (negsuc n) y g u h U v = add_once f (of_int f (negsuc n)) y true (suc n) g u U (whole f (negsuc n) h) v ∙ sym (exact_form_once f u g (negsuc n))
