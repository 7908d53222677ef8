-- The formula for the days before a year is the count year by year, at every year from 1970 on. Assumes nothing.
use Prim.Native.Nat.{ℕ, zero, suc, ◌+◌, ◌-◌, ◌*◌, ◌/◌, ◌%◌, ◌<◌, ◌≤◌}
use mathlib.Core.Path.{◌≡◌, refl, ap, sym, ◌∙◌}
use mathlib.Core.Logic.{◌≢◌}
use mathlib.Core.Bool.{Bool, true, false, true≢false, cond, not, ◌&&◌, ◌||◌}
use native.Mathlib.Numerals.{add-one}
use native.Mathlib.Omega.{arith}
use native.Mathlib.Nat.{div-add-mod', div-eq_of_lt-le, suc-mul, mod-lt}
use borrow.Author.Tests.{eqb-true, eqb-false, eq-eqb}
use lib.Arith.{digits_div}
use lib.Dec.{lit<}
use Rattle.dates.specs.Calendar.{divides, days_of_year, days_of_years, days_before_year}

-- 1 for a year that counts
abbrev tick : Bool → ℕ
tick b = cond b 1 0

-- of the years up to y, y / d are divisible by d: the next one counts where d divides it
one_more : (d y : ℕ) → 0 < d → (b : Bool) → divides d (y + 1) ≡ b → (y + 1) / d ≡ y / d + tick b
one_more d y h true e = go ((y + 1) / d) (div-add-mod' (y + 1) d)
  where
    go : (q : ℕ) → q * d + (y + 1) % d ≡ y + 1 → q ≡ y / d + 1
    go zero f = absurd (omega (arith, eqb-true ((y + 1) % d) 0 e))
    go (suc p) f =
        let s : suc p * d ≡ p * d + d = suc-mul p d in
        let t : (p + 1) * d ≡ p * d + d = ap (λ (x : ℕ). x * d) (add-one p) ∙ suc-mul p d in
        let z : (y + 1) % d ≡ 0 = eqb-true ((y + 1) % d) 0 e in
        let this : y / d ≡ p = div-eq_of_lt-le d (omega arith) (omega arith) in
        omega arith
one_more d y h false e =
    let f : (y + 1) / d * d + (y + 1) % d ≡ y + 1 = div-add-mod' (y + 1) d in
    let z : (y + 1) % d ≢ 0 = eqb-false ((y + 1) % d) 0 e in
    let l : (y + 1) % d < d = mod-lt (y + 1) h in
    let this : y ≡ (y + 1) / d * d + ((y + 1) % d - 1) = omega arith in
    let same : y / d ≡ (y + 1) / d = ap (λ (x : ℕ). x / d) this ∙ digits_div ((y + 1) / d) (omega arith) in
    omega arith

-- the rule of leap years as a sum: the years divisible by 4, without those divisible by 100, and again those divisible by 400
as_a_sum : (a b c : Bool) → (b ≡ true → a ≡ true) → (c ≡ true → b ≡ true) → cond (a && (not b || c)) 366 365 + tick b ≡ 365 + tick a + tick c
as_a_sum true true true h k = refl
as_a_sum true true false h k = refl
as_a_sum true false true h k = absurd (true≢false (sym (k refl)))
as_a_sum true false false h k = refl
as_a_sum false true c h k = absurd (true≢false (sym (h refl)))
as_a_sum false false true h k = absurd (true≢false (sym (k refl)))
as_a_sum false false false h k = refl

-- by induction: the formula counts from the year 1, and 1970 comes 719162 days later
year_by_year : (n : ℕ) → 365 * (1969 + n) + (1969 + n) / 4 + (1969 + n) / 400 ≡ days_of_years n + (1969 + n) / 100 + 719162
unfolding days_of_years days_of_year
year_by_year zero = refl
year_by_year (suc n) =
    let y = 1969 + n in
    let this : 1970 + n ≡ y + 1 = omega arith in
    let next : 1969 + suc n ≡ y + 1 = omega arith in
    let by_4 : (y + 1) / 4 ≡ y / 4 + tick (divides 4 (y + 1)) = one_more 4 y (lit< tt) _ refl in
    let by_100 : (y + 1) / 100 ≡ y / 100 + tick (divides 100 (y + 1)) = one_more 100 y (lit< tt) _ refl in
    let by_400 : (y + 1) / 400 ≡ y / 400 + tick (divides 400 (y + 1)) = one_more 400 y (lit< tt) _ refl in
    let in_4 : divides 100 (y + 1) ≡ true → divides 4 (y + 1) ≡ true = λ e. eq-eqb ((y + 1) % 4) 0 (omega (arith, eqb-true ((y + 1) % 100) 0 e)) in
    let in_100 : divides 400 (y + 1) ≡ true → divides 100 (y + 1) ≡ true = λ e. eq-eqb ((y + 1) % 100) 0 (omega (arith, eqb-true ((y + 1) % 400) 0 e)) in
    let leap = as_a_sum (divides 4 (y + 1)) (divides 100 (y + 1)) (divides 400 (y + 1)) in_4 in_100 in
    rw (this, next, by_4, by_100, by_400) (omega (arith, leap, year_by_year n))

-- THE FORMULA: with y the year before, 365 y + y / 4 - y / 100 + y / 400 - 719162
pub formula : (year : ℕ) → 1970 ≤ year → 365 * (year - 1) + (year - 1) / 4 + (year - 1) / 400 ≡ days_before_year year + (year - 1) / 100 + 719162
formula year h =
    let y : 1969 + (year - 1970) ≡ year - 1 = omega arith in
    rw y at (year_by_year (year - 1970))
