-- The months: none is longer than 31 days, and together they are the year. Assumes nothing.
use Prim.Native.Nat.{ℕ, zero, suc, ◌+◌, ◌-◌, max, ◌≤◌}
use mathlib.Core.Path.{◌≡◌, refl}
use mathlib.Core.Bool.{Bool, true, false, cond}
use mathlib.Core.List.{List, [], ◌∷◌}
use native.Mathlib.Numerals.{add-one}
use native.Mathlib.Omega.{arith}
use lib.Dec.{lit≤}
use lib.ListN.{get_or}
use Rattle.dates.specs.Calendar.{leap, february, months, days_of_month, days_of_months, days_of_year}

-- the months of a year have as many days together as the year
pub months_make_the_year : (year : ℕ) → days_of_months year 12 ≡ days_of_year year
unfolding days_of_months days_of_month days_of_year
months_make_the_year year = go (leap year)
  where
    go : (l : Bool) → 31 + cond l 29 28 + 31 + 30 + 31 + 30 + 31 + 31 + 30 + 31 + 30 + 31 ≡ cond l 366 365
    go true = refl
    go false = refl

-- one month more
pub next_month : (year n : ℕ) → days_of_months year (n + 1) ≡ days_of_months year n + days_of_month year (n + 1)
unfolding days_of_months
next_month year n = rw add-one

-- no element of a list is above the largest
abbrev largest : List ℕ → ℕ
largest [] = 0
largest (x ∷ s) = max x (largest s)

at_most_largest : (s : List ℕ) (i : ℕ) → get_or s i 0 ≤ largest s
at_most_largest [] i = lit≤ tt
at_most_largest (x ∷ s) zero = omega arith
at_most_largest (x ∷ s) (suc i) = omega (arith, at_most_largest s i)

february_at_most_29 : (year : ℕ) → february year ≤ 29
february_at_most_29 year = go (leap year)
  where
    go : (l : Bool) → cond l 29 28 ≤ 29
    go true = lit≤ tt
    go false = lit≤ tt

pub month_at_most_31 : (year month : ℕ) → days_of_month year month ≤ 31
unfolding days_of_month
month_at_most_31 year month = omega (arith, at_most_largest (months year) (month - 1), february_at_most_29 year)
