-- What the crate's own functions ask of and tell one another besides the definitions: places within the text, and how large a number can be.
-- Assumes nothing: these are definitions.
use Rattle.std.specs.Prelude.{ℕ, ◌+◌, ◌≤◌, ◌<◌, List, length, Option, Some, None}
use Rattle.dates.specs.declared.fields.Day.{Day}
use Rattle.dates.specs.declared.fields.Time.{Time}

-- a field of the text with a byte or more, and few enough that 64 bits hold their number
pub record Field (text : List ℕ) (from to : ℕ) : Type 0 where
  pub some : from < to
  pub few : to ≤ from + 18
  pub inside : to ≤ length text

-- a number, where there is one, below a bound
abbrev pub Below : ℕ → Option ℕ → Type 0
Below bound (Some n) = n < bound
Below bound None = Unit

-- a year, where there is one, that two digits or a sign and a digit can say
abbrev pub AYear : Option ℕ → Type 0
AYear (Some n) = (1991 ≤ n) × (n < 2100)
AYear None = Unit

-- a day of such a year
pub record YearBounds (d : Day) : Type 0 where
  pub first_year : 1991 ≤ d.year
  pub last_year : d.year < 2100

-- a day that the calendar has, in such a year
pub record DayBounds (d : Day) : Type 0 where
  pub years : YearBounds d
  pub first_month : 1 ≤ d.month
  pub last_month : d.month ≤ 12
  pub first_day : 1 ≤ d.day
  pub last_day : d.day ≤ 31

-- a time that a clock has
pub record TimeBounds (t : Time) : Type 0 where
  pub hours : t.hour < 24
  pub minutes : t.minute < 60
  pub seconds : t.second < 60
  pub milliseconds : t.millisecond < 1000

-- a day as it can be read
abbrev pub DayInRange : Option Day → Type 0
DayInRange (Some d) = YearBounds d
DayInRange None = Unit

-- a time as it can be read
abbrev pub TimeInRange : Option Time → Type 0
TimeInRange (Some t) = t.millisecond < 1000
TimeInRange None = Unit
