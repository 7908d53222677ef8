-- One rounding is off by half a unit in the last place at most: by 2 ^ j / 2 ^ (prec + 1) for a size up to 2 ^ j, in a format of prec digits.
-- Once for both formats. Assumes nothing.
use Prim.Native.Nat.{ℕ, suc, ◌+◌, ◌*◌, ◌/◌, ◌%◌, ◌^◌, ◌≤◌, ◌<◌, compare, Ordering}
use mathlib.Core.Path.{◌≡◌, ap, subst}
use mathlib.Core.Bool.{Bool, not}
use mathlib.Core.Logic.{◌⊎◌, inl, inr}
use native.Mathlib.Nat.{le_trans, le_of_eq, lt_of_lt_of_le, eq-or-lt_of_le, mul_right_comm, one-mul, zero-add, mul-pos, mul-le-mul_left, mul-le-mul_right, mul-lt-mul_of_pos_right, lt_of_mul-lt-mul_right, div-add-mod', mod-lt, div-lt_iff_lt-mul, suc-mul}
use native.Mathlib.Omega.{arith}
use lib.Dec.{T, is_le, compare_is_eq, leb→le, nleb→lt, eqb→eq}
use lib.Pow.{pow-add, pow_pos, pow_mono}
use lib.Ieee.{Float, nan, inf, fin, Format, prec, emax, low, up, down, size, nearest, round}
use lib.Ieee.Digits.{size-le}
use lib.Ieee.Exact.{HasValue, units_val}
use lib.Ieee.Fits.{round_is}
use lib.Ieee.Nearest.{closest}
use lib.Ieee.Order.{drop, kept}
use lib.Ieee.Scale.{grid, overflow}
use Rattle.fixed.proofs.Held.{held, finest}
use Rattle.fixed.proofs.Near.{Close, Sized, triangle}

-- ---- the whole number nearest to a fraction is off by a half at most

record Half (w a b : ℕ) : Type 0 where
  pub above : w * b * 2 ≤ a * 2 + b
  pub below : a * 2 ≤ w * b * 2 + b

by_order : (w r b : ℕ) (o : Ordering) → r < b → (T (is_le o) → r * 2 ≤ b) → (T (not (is_le o)) → b < r * 2) → (T (compare_is_eq o) → r * 2 ≡ b) → Half (nearest w o) (w * b + r) b
by_order w r b Ordering.lt h le gt eq = let k = le tt in omega arith
by_order w r b Ordering.eq h le gt eq =
    let k = eq tt in
    let most : w + w % 2 ≤ w + 1 = omega arith in
    let least : w ≤ w + w % 2 = omega arith in
    omega (arith, mul-le-mul_right b most, mul-le-mul_right b least)
by_order w r b Ordering.gt h le gt eq = let k = gt tt in omega (arith, suc-mul w b)

closest_half : (a b : ℕ) → 0 < b → Half (closest a b) a b
closest_half a b B =
    let r = a % b * 2 in
    subst (λ (x : ℕ). Half (closest a b) x b) (div-add-mod' a b)
    (by_order (a / b) (a % b) b (compare r b) (mod-lt a B) (leb→le r b) (nleb→lt r b) (eqb→eq r b))

-- ---- so is a fraction below 2 ^ j, in units of the last digit that a format keeps

-- n / c in smallest values of the format; the digits kept of it, and the weight of the last one
abbrev smallest : Format → ℕ → ℕ
smallest f n = n * 2 ^ low f

abbrev leading : Format → ℕ → ℕ → ℕ
leading f n c = kept (prec f) (smallest f n) c

abbrev unit : Format → ℕ → ℕ → ℕ
unit f n c = 2 ^ drop (prec f) (smallest f n) c

-- no more digits are dropped than j leaves room for
unit_small : (f : Format) (n c j : ℕ) → 0 < c → n < 2 ^ j * c → unit f n c * 2 ^ prec f ≤ 2 ^ j * 2 ^ low f
unit_small f n c j C h =
    let a = smallest f n in
    let e : a < 2 ^ (j + low f) * c = rw (pow-add 2 j (low f)) (lt_of_lt_of_le (mul-lt-mul_of_pos_right h (pow_pos (low f))) (le_of_eq (mul_right_comm (2 ^ j) c (2 ^ low f)))) in
    let z : size (a / c) ≤ j + low f = size-le (a / c) (j + low f) ((div-lt_iff_lt-mul C).1 e) in
    let k : drop (prec f) a c + prec f ≤ j + low f = omega (arith, finest f) in
    rw (← pow-add 2 (drop (prec f) a c) (prec f), ← pow-add 2 j (low f)) (pow_mono k)

-- w units of k, nearest to n l / c: how far off, ..
scaled : (w k c n l p j : ℕ) → Half w (n * l) (c * k) → k * p ≤ j * l → Close (w * k) 0 l n 0 c j (p * 2)
scaled w k c n l p j h b = omega (arith, mul-le-mul_right p h.above, mul-le-mul_right p h.below, mul-le-mul_right c b)

-- .. and how many
few : (w k c n l p j : ℕ) → 0 < l → 0 < p → Half w (n * l) (c * k) → k * p ≤ j * l → n < j * c → w * k < j * l * 2
few w k c n l p j L P h b m =
    let g : w * k * c < j * l * 2 * c = omega (arith, mul-le-mul_right l m, mul-le-mul_right c (le_trans (mul-le-mul_left k P) b), h.above) in
    lt_of_mul-lt-mul_right c g

module _ (f : Format) (n c j : ℕ) (C : 0 < c) (h : n < 2 ^ j * c) where
  half : Half (leading f n c) (smallest f n) (c * unit f n c)
  half = closest_half (smallest f n) (c * unit f n c) (mul-pos C (pow_pos (drop (prec f) (smallest f n) c)))

  grid_close : Close (grid f n c) 0 (2 ^ low f) n 0 c (2 ^ j) (2 ^ prec f * 2)
  grid_close = scaled (leading f n c) (unit f n c) c n (2 ^ low f) (2 ^ prec f) (2 ^ j) half (unit_small f n c j C h)

  grid_finite : j ≤ emax f → grid f n c < overflow f
  grid_finite J =
      let i : j + low f + 1 ≤ low f + suc (emax f) = omega arith in
      let g = few (leading f n c) (unit f n c) c n (2 ^ low f) (2 ^ prec f) (2 ^ j) (pow_pos (low f)) (pow_pos (prec f)) half (unit_small f n c j C h) h in
      lt_of_lt_of_le g (rw (← pow-add 2 j (low f), ← pow-add 2 (j + low f) 1) (pow_mono i))

  grid_value : (s : Bool) → j ≤ emax f → HasValue (round f s n c) s (grid f n c) (2 ^ low f)
  grid_value s J = rw (round_is f s n c) (units_val f s (leading f n c) (drop (prec f) (smallest f n) c) (grid_finite J))

-- ---- a float that has a value near a fraction is near that fraction

pub sized : (x : Float) (s : Bool) (g u n c p q : ℕ) → 0 < u → HasValue x s g u → Close g 0 u n 0 c p q → Sized x s n c p q
sized nan s g u n c p q U h k = h
sized (inf t) s g u n c p q U h k = h
sized (fin t m e) s g u n c p q U h k = (h.0, rw zero-add at (triangle (m * up e) 0 (down e) g 0 u n 0 c 0 p q U same k))
  where
    same : Close (m * up e) 0 (down e) g 0 u 0 q
    same = let i = ap (λ (z : ℕ). z * q) h.1 in omega arith

-- ---- HALF A UNIT: a size up to 2 ^ j, rounded

pub half_unit : (f : Format) (s : Bool) (n c j : ℕ) → 0 < c → n ≤ 2 ^ j * c → j + prec f ≤ emax f → Sized (round f s n c) s n c (2 ^ j) (2 ^ prec f * 2)
half_unit f s n c j C h J = go (eq-or-lt_of_le h)
  where
    -- 2 ^ j itself is a value of the format
    one_power : n ≡ 2 ^ j * c → n * 2 ^ low f ≡ 1 * 2 ^ (j + low f) * c
    one_power e = rw (e, one-mul, pow-add 2 j (low f)) (mul_right_comm (2 ^ j) c (2 ^ low f))

    go : (n ≡ 2 ^ j * c) ⊎ (n < 2 ^ j * c) → Sized (round f s n c) s n c (2 ^ j) (2 ^ prec f * 2)
    go (inl e) = sized (round f s n c) s n c n c (2 ^ j) (2 ^ prec f * 2) C (held f s n c 1 (j + low f) C (pow_pos (prec f)) (omega arith) (one_power e)) (omega arith)
    go (inr l) = sized (round f s n c) s (grid f n c) (2 ^ low f) n c (2 ^ j) (2 ^ prec f * 2) (pow_pos (low f)) (grid_value f n c j C l s (omega arith)) (grid_close f n c j C l)
