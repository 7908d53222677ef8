-- A whole number as the difference of two natural numbers, so that arithmetic on whole numbers is arithmetic on natural ones. Assumes nothing.
use Prim.Native.Nat.{ℕ, zero, suc, ◌+◌, ◌-◌, ◌*◌, ◌≤◌, ◌<◌}
use mathlib.Core.Path.{◌≡◌, refl, sym, ap, ◌∙◌}
use mathlib.Core.Bool.{Bool, true, false}
use native.Mathlib.Decide.{dec_lt}
use native.Mathlib.Omega.{arith}
use borrow.Author.Tests.{lt-ltb, le-ltb}
use lib.IntN.{ℤ, pos, negsuc, neg_ℤ, nat_abs, sub_ℕ, ◌+ℤ◌, ◌-ℤ◌, ◌*ℤ◌}
use lib.Signed.{mag}
use Rattle.fixed.specs.Distance.{signed}

-- z is over z - under z
abbrev pub over : ℤ → ℕ
over (pos n) = n
over (negsuc n) = 0

abbrev pub under : ℤ → ℕ
under (pos n) = 0
under (negsuc n) = suc n

-- ---- the difference a - b, `sub_ℕ a b`, by its sign and by its two parts

pub not_below : (a b : ℕ) → b ≤ a → sub_ℕ a b ≡ pos (a - b)
not_below a b h = rw (le-ltb a b h)

pub below : (a b : ℕ) → a < b → sub_ℕ a b ≡ negsuc (b - suc a)
below a b h = rw (lt-ltb a b h)

pub is_difference : (z : ℤ) (a b : ℕ) → over z + b ≡ a + under z → z ≡ sub_ℕ a b
is_difference (pos n) a b e =
    let h : b ≤ a = omega arith in
    let k : n ≡ a - b = omega arith in
    ap pos k ∙ sym (not_below a b h)
is_difference (negsuc n) a b e =
    let h : a < b = omega arith in
    let k : n ≡ b - suc a = omega arith in
    ap negsuc k ∙ sym (below a b h)

pub parts : (a b : ℕ) → over (sub_ℕ a b) + b ≡ a + under (sub_ℕ a b)
parts a b = go (dec_lt a b)
  where
    go : Dec (a < b) → over (sub_ℕ a b) + b ≡ a + under (sub_ℕ a b)
    go (yes h) = rw (below a b h) (omega arith)
    go (no h) = let k : b ≤ a = omega arith in rw (not_below a b k) (omega arith)

-- ---- `mag z < k` says that z is from -k to k - 1

pub sides : (z : ℤ) (k : ℕ) → mag z < k → (over z < k) × (under z ≤ k)
sides (pos n) k h = (h, omega arith)
sides (negsuc n) k h = (omega arith, h)

pub in_range : (a b k : ℕ) → a < k → b ≤ k → mag (sub_ℕ a b) < k
in_range a b k h l = go (sub_ℕ a b) (parts a b)
  where
    go : (z : ℤ) → over z + b ≡ a + under z → mag z < k
    go (pos n) e = omega arith
    go (negsuc n) e = omega arith

-- ---- the parts of a sum, a product and an opposite

sum_parts : (z w : ℤ) → over (z +ℤ w) + (under z + under w) ≡ over z + over w + under (z +ℤ w)
sum_parts (pos a) (pos b) = omega arith
sum_parts (pos a) (negsuc b) = omega (arith, parts a (suc b))
sum_parts (negsuc a) (pos b) = omega (arith, parts b (suc a))
sum_parts (negsuc a) (negsuc b) = omega arith

opposite_parts : (z : ℤ) → (over (neg_ℤ z) ≡ under z) × (under (neg_ℤ z) ≡ over z)
opposite_parts (pos zero) = (refl, refl)
opposite_parts (pos (suc n)) = (refl, refl)
opposite_parts (negsuc n) = (refl, refl)

times_parts : (z : ℤ) (k : ℕ) → (over (z *ℤ pos k) ≡ over z * k) × (under (z *ℤ pos k) ≡ under z * k)
times_parts (pos n) k = (refl, omega arith)
times_parts (negsuc n) k = let e = opposite_parts (pos (suc n * k)) in (omega (arith, e.0), omega (arith, e.1))

-- ---- so differences are multiplied, subtracted and compared by their parts

pub product : (a b k : ℕ) → sub_ℕ a b *ℤ pos k ≡ sub_ℕ (a * k) (b * k)
product a b k =
    let e = times_parts (sub_ℕ a b) k in
    let h : (over (sub_ℕ a b) + b) * k ≡ (a + under (sub_ℕ a b)) * k = ap (λ (n : ℕ). n * k) (parts a b) in
    is_difference (sub_ℕ a b *ℤ pos k) (a * k) (b * k) (omega (arith, e.0, e.1))

pub difference : (a b c d : ℕ) → sub_ℕ a b -ℤ sub_ℕ c d ≡ sub_ℕ (a + d) (b + c)
difference a b c d =
    let z = sub_ℕ a b in
    let w = sub_ℕ c d in
    let e = opposite_parts w in
    is_difference (z -ℤ w) (a + d) (b + c) (omega (arith, sum_parts z (neg_ℤ w), parts a b, parts c d, e.0, e.1))

-- high + low / d, times d
pub two_parts : (high : ℤ) (d low : ℕ) → high *ℤ pos d +ℤ pos low ≡ sub_ℕ (over high * d + low) (under high * d)
two_parts high d low =
    let e = times_parts high d in
    is_difference (high *ℤ pos d +ℤ pos low) (over high * d + low) (under high * d) (omega (arith, sum_parts (high *ℤ pos d) (pos low), e.0, e.1))

-- a size with its sign: the size stands on one side
abbrev pub plus : Bool → ℕ → ℕ
plus false n = n
plus true n = 0

abbrev pub minus : Bool → ℕ → ℕ
minus false n = 0
minus true n = n

pub signed_is : (s : Bool) (n : ℕ) → signed s n ≡ sub_ℕ (plus s n) (minus s n)
signed_is false n = is_difference (pos n) n 0 refl
signed_is true n = let e = opposite_parts (pos n) in is_difference (neg_ℤ (pos n)) 0 n (omega (arith, e.0, e.1))

-- a distance of t / q at most
pub far : (a b q t : ℕ) → a * q ≤ b * q + t → b * q ≤ a * q + t → nat_abs (sub_ℕ a b) * q ≤ t
far a b q t h k = go (sub_ℕ a b) (parts a b)
  where
    go : (z : ℤ) → over z + b ≡ a + under z → nat_abs z * q ≤ t
    go (pos n) e = let m : (n + b) * q ≡ (a + 0) * q = ap (λ (x : ℕ). x * q) e in omega arith
    go (negsuc n) e = let m : (0 + b) * q ≡ (a + suc n) * q = ap (λ (x : ℕ). x * q) e in omega arith
