-- How far a float lies from a fraction (a - b) / c, over natural numbers, and what that says over whole ones. Assumes nothing.
use Prim.Native.Nat.{ℕ, ◌+◌, ◌*◌, ◌≤◌, ◌<◌}
use mathlib.Core.Path.{◌≡◌, ap}
use mathlib.Core.Bool.{Bool, true, false}
use native.Mathlib.Nat.{le_of_mul-le-mul_right, mul-le-mul_right, zero-mul}
use native.Mathlib.Omega.{arith}
use lib.IntN.{pos, nat_abs, sub_ℕ, ◌-ℤ◌, ◌*ℤ◌}
use lib.Ieee.{Float, nan, inf, fin, up, down}
use lib.Ieee.Exact.{HasValue}
use Rattle.fixed.specs.declared.Exact.{Exact}
use Rattle.fixed.specs.Distance.{signed, Equals, Within}
use Rattle.fixed.proofs.Difference.{plus, minus, signed_is, product, difference, far}

-- ---- fractions

-- (a - b) / c is above (x - y) / z by p / q at most
abbrev pub Above : (a b c x y z p q : ℕ) → Type 0
Above a b c x y z p q = (a * z + y * c) * q ≤ (b * z + x * c) * q + p * (c * z)

-- and below it by that at most: the two are at most p / q apart
pub record Close (a b c x y z p q : ℕ) : Type 0 where
  pub above : Above a b c x y z p q
  pub below : Above b a c y x z p q

-- distances add up
sum_above : (a b c x y z u v w p r q : ℕ) → 0 < z → Above a b c x y z p q → Above x y z u v w r q → Above a b c u v w (p + r) q
sum_above a b c x y z u v w p r q Z h k =
    let t = (x + y) * (w * q * c) in
    let left : (a * z + y * c) * q * w + (x * w + v * z) * q * c ≡ (a * w + v * c) * q * z + t = omega arith in
    let right : ((b * z + x * c) * q + p * (c * z)) * w + ((y * w + u * z) * q + r * (z * w)) * c ≡ ((b * w + u * c) * q + (p + r) * (c * w)) * z + t = omega arith in
    let both : (a * w + v * c) * q * z ≤ ((b * w + u * c) * q + (p + r) * (c * w)) * z = omega (arith, mul-le-mul_right w h, mul-le-mul_right c k) in
    le_of_mul-le-mul_right both Z

pub triangle : (a b c x y z u v w p r q : ℕ) → 0 < z → Close a b c x y z p q → Close x y z u v w r q → Close a b c u v w (p + r) q
triangle a b c x y z u v w p r q Z h k =
    record { above = sum_above a b c x y z u v w p r q Z h.above k.above; below = sum_above b a c y x z v u w p r q Z h.below k.below }

-- ---- floats

-- x is within p / q of (a - b) / c
abbrev pub Near : Float → ℕ → ℕ → ℕ → ℕ → ℕ → Type 0
Near nan a b c p q = ⊥
Near (inf s) a b c p q = ⊥
Near (fin s m e) a b c p q = Close (plus s (m * up e)) (minus s (m * up e)) (down e) a b c p q

pub near_by : (x : Float) (a b c u v w p r q : ℕ) → 0 < c → Near x a b c p q → Close a b c u v w r q → Near x u v w (p + r) q
near_by nan a b c u v w p r q C h k = h
near_by (inf s) a b c u v w p r q C h k = h
near_by (fin s m e) a b c u v w p r q C h k = triangle (plus s (m * up e)) (minus s (m * up e)) (down e) a b c u v w p r q C h k

-- x has the sign s, and its size is within p / q of n / c
abbrev pub Sized : Float → Bool → ℕ → ℕ → ℕ → ℕ → Type 0
Sized nan s n c p q = ⊥
Sized (inf t) s n c p q = ⊥
Sized (fin t m e) s n c p q = (t ≡ s) × Close (m * up e) 0 (down e) n 0 c p q

-- and where that size with its sign is a - b, x is near it
pub near_of_size : (x : Float) (s : Bool) (n a b c p q : ℕ) → plus s n + b ≡ a + minus s n → Sized x s n c p q → Near x a b c p q
near_of_size nan s n a b c p q e h = h
near_of_size (inf t) s n a b c p q e h = h
near_of_size (fin t m i) s n a b c p q e h = rw h.0 (side s e h.1)
  where
    side : (s : Bool) → plus s n + b ≡ a + minus s n → Close (m * up i) 0 (down i) n 0 c p q → Close (plus s (m * up i)) (minus s (m * up i)) (down i) a b c p q
    side false e k = let l = ap (λ (z : ℕ). z * (down i * q)) e in omega arith
    side true e k = let l = ap (λ (z : ℕ). z * (down i * q)) e in omega arith

-- ---- the same over whole numbers, as specs/Distance.antt says it

pub within : (x : Float) (a b c p q : ℕ) → Near x a b c p q → Within x (record { numerator = sub_ℕ a b; denominator = c }) p q
within nan a b c p q h = h
within (inf s) a b c p q h = h
within (fin s m e) a b c p q h =
    rw (signed_is s (m * up e), product (plus s (m * up e)) (minus s (m * up e)) c, product a b (down e), difference)
    (far _ _ q (p * (down e * c)) h.above h.below)

-- a larger bound holds too
pub looser : (x : Float) (a : Exact) (p q u v : ℕ) → 0 < q → p * v ≤ u * q → Within x a p q → Within x a u v
looser nan a p q u v Q k h = h
looser (inf s) a p q u v Q k h = h
looser (fin s m e) a p q u v Q k h =
    let l = mul-le-mul_right v h in
    let n = mul-le-mul_right (down e * a.denominator) k in
    let g : nat_abs (signed s (m * up e) *ℤ pos a.denominator -ℤ a.numerator *ℤ pos (down e)) * v * q ≤ u * (down e * a.denominator) * q = omega arith in
    le_of_mul-le-mul_right g Q

-- a float that has a value is the number of that value
pub equals : (x : Float) (s : Bool) (n c : ℕ) → HasValue x s n c → Equals x (record { numerator = signed s n; denominator = c })
equals nan s n c h = h
equals (inf t) s n c h = h
equals (fin t m e) s n c h =
    rw (h.0, signed_is s (m * up e), signed_is s n, product (plus s (m * up e)) (minus s (m * up e)) c, product (plus s n) (minus s n) (down e)) (side s)
  where
    side : (s : Bool) → sub_ℕ (plus s (m * up e) * c) (minus s (m * up e) * c) ≡ sub_ℕ (plus s n * down e) (minus s n * down e)
    side false = rw (h.1, zero-mul c, zero-mul (down e))
    side true = rw (h.1, zero-mul c, zero-mul (down e))
