-- The Gregorian calendar from 1970 on, counted year by year and month by month: the days and milliseconds of document 01, Values (U).
-- Assumes nothing: these are definitions.
use Rattle.std.specs.Prelude.{ℕ, zero, suc, ◌+◌, ◌-◌, ◌*◌, ◌%◌, Bool, cond, not, ◌&&◌, ◌||◌, List, [], ◌∷◌, eqb, leb, ltb, get_or}
use Rattle.dates.specs.declared.fields.Day.{Day}
use Rattle.dates.specs.declared.fields.Time.{Time}

-- a year that n divides
abbrev pub divides : ℕ → ℕ → Bool
divides n year = eqb (year % n) 0

-- a leap year is divisible by 4, and not by 100 unless by 400
abbrev pub leap : ℕ → Bool
leap year = divides 4 year && (not (divides 100 year) || divides 400 year)

-- February has 29 days in a leap year, and 28 in another
abbrev pub february : ℕ → ℕ
february year = cond (leap year) 29 28

-- the days of each month of a year, January first
abbrev pub months : ℕ → List ℕ
months year = 31 ∷ february year ∷ 31 ∷ 30 ∷ 31 ∷ 30 ∷ 31 ∷ 31 ∷ 30 ∷ 31 ∷ 30 ∷ 31 ∷ []

-- the days of a month, 1 to 12
unfoldable pub days_of_month : ℕ → ℕ → ℕ
days_of_month year month = get_or (months year) (month - 1) 0

-- a leap year has 366 days, and another 365
unfoldable pub days_of_year : ℕ → ℕ
days_of_year year = cond (leap year) 366 365

-- the days of so many years, 1970 the first of them
unfoldable pub days_of_years : ℕ → ℕ
days_of_years zero = 0
days_of_years (suc n) = days_of_years n + days_of_year (1970 + n)

-- the days of so many months of a year, January the first of them
unfoldable pub days_of_months : ℕ → ℕ → ℕ
days_of_months year zero = 0
days_of_months year (suc n) = days_of_months year n + days_of_month year (suc n)

-- the days of the years from 1970 to before a year
abbrev pub days_before_year : ℕ → ℕ
days_before_year year = days_of_years (year - 1970)

-- the days of the year's months before a month
abbrev pub days_before_month : ℕ → ℕ → ℕ
days_before_month year month = days_of_months year (month - 1)

-- the days before a day: of the years, of the months, and of the month
abbrev pub days_before : Day → ℕ
days_before d = days_before_year d.year + days_before_month d.year d.month + (d.day - 1)

-- a day that the calendar has (document 01, Values: "an impossible date or time gives 0 ms")
unfoldable pub possible_day : Day → Bool
possible_day d = leb 1 d.month && (leb d.month 12 && (leb 1 d.day && leb d.day (days_of_month d.year d.month)))

-- a time that a day has; there is no second 60
unfoldable pub possible_time : Time → Bool
possible_time t = ltb t.hour 24 && (ltb t.minute 60 && ltb t.second 60)

-- whole days and a time as milliseconds
abbrev pub in_milliseconds : ℕ → Time → ℕ
in_milliseconds days t = (((days * 24 + t.hour) * 60 + t.minute) * 60 + t.second) * 1000 + t.millisecond

-- the milliseconds from the start of 1970 to a moment; an impossible date or time gives 0 (document 01, Values)
unfoldable pub milliseconds_of : Day → Time → ℕ
milliseconds_of d t = cond (possible_day d && possible_time t) (in_milliseconds (days_before d) t) 0
