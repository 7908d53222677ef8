-- Texts whose dates are computed from the definition, by document 01's rules for dates; its own case 9 stands in `theorems`. Assumes nothing.
use Prim.Native.String.{String}
use mathlib.Core.Path.{◌≡◌, refl}
use mathlib.Core.List.{List, [], ◌∷◌, map}
use Rattle.foundation.specs.Text.{characters}
use Rattle.foundation.specs.Digits.{worth_of}
use Rattle.std.specs.Prelude.{ℕ, Result, Ok, Err}
use Rattle.foundation.specs.declared.refusal.Fault.{Fault}
use Rattle.foundation.specs.declared.refusal.Fault.TheVariants as fault
use Rattle.dates.specs.Calendar.{milliseconds_of, possible_day, possible_time, days_of_month, days_of_months, days_of_year, days_of_years}
use Rattle.dates.specs.Fields.{day_of, time_of, year, unsigned}
use Rattle.dates.specs.Date.{date_of, refusal}

abbrev pub date : String → Result ℕ Fault
date text = date_of (characters text)

-- a text and its date
abbrev pub Row : Type 0
Row = String × Result ℕ Fault

abbrev pub rows : List Row
rows =
    ("700101000000.000", Ok 3155760000000)  -- the year counts from 2000
    ∷ ("-91231235959.999", Ok 694223999999)  -- 1991, the first year that a text can say
    ∷ ("991231235959.999", Ok 4102444799999)  -- 2099, the last
    ∷ ("+1+2+3+4+5+6.+78", Ok 981173106078)  -- a `+` in each field
    ∷ ("24-229120000.000", Err fault.Unreadable)  -- a `-` in the year only
    ∷ ("240229120000x000", Ok 1709208000000)  -- any thirteenth byte
    ∷ ("2402291200000000 and more", Ok 1709208000000)  -- 16 bytes
    ∷ ("240229120000.00", Err fault.TooFew)
    ∷ ("240029120000.000", Ok 0)  -- month 0
    ∷ ("241301120000.000", Ok 0)  -- month 13
    ∷ ("240200120000.000", Ok 0)  -- day 0
    ∷ ("240230120000.000", Ok 0)  -- 30 February
    ∷ ("240229240000.000", Ok 0)  -- hour 24
    ∷ ("240229126000.000", Ok 0)  -- minute 60
    ∷ ("240229120060.000", Ok 0)  -- second 60
    ∷ []

-- each is read as listed
pub as_listed : map (λ (r : Row). date r.0) rows ≡ map (λ (r : Row). r.1) rows
unfolding date_of day_of time_of year unsigned worth_of milliseconds_of possible_day possible_time days_of_month days_of_months days_of_year days_of_years
as_listed = refl

-- document 01, Refusal numbers
pub refusal_numbers : (refusal (date "240229120000.00") ≡ 6) × (refusal (date "24-229120000.000") ≡ 7)
unfolding date_of day_of time_of year unsigned worth_of
refusal_numbers = (refl, refl)
