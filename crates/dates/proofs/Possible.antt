-- What is known of a day and a time that the calendar has. Assumes nothing.
use Prim.Native.Nat.{◌≤◌, ◌<◌}
use mathlib.Core.Path.{◌≡◌}
use mathlib.Core.Bool.{true}
use native.Mathlib.Omega.{arith}
use borrow.Author.Tests.{leb-true, ltb-true}
use lib.Dec.{leb, ltb}
use Rattle.dates.specs.declared.fields.Day.{Day}
use Rattle.dates.specs.declared.fields.Time.{Time}
use Rattle.dates.specs.Calendar.{possible_day, possible_time, days_of_month}
use Rattle.dates.specs.Bounds.{YearBounds, DayBounds, TimeBounds}
use Rattle.dates.proofs.Months.{month_at_most_31}
use Rattle.dates.proofs.Tests.{both}

pub day_bounds : (d : Day) → YearBounds d → possible_day d ≡ true → DayBounds d
unfolding possible_day
day_bounds d years h =
    let (a, rest) = both (leb 1 d.month) _ h in
    let (b, more) = both (leb d.month 12) _ rest in
    let (e, f) = both (leb 1 d.day) _ more in
    let last : d.day ≤ days_of_month d.year d.month = leb-true d.day (days_of_month d.year d.month) f in
    record {
      years = years;
      first_month = leb-true 1 d.month a;
      last_month = leb-true d.month 12 b;
      first_day = leb-true 1 d.day e;
      last_day = omega (arith, last, month_at_most_31 d.year d.month);
    }

pub time_bounds : (t : Time) → t.millisecond < 1000 → possible_time t ≡ true → TimeBounds t
unfolding possible_time
time_bounds t small h =
    let (a, rest) = both (ltb t.hour 24) _ h in
    let (b, e) = both (ltb t.minute 60) _ rest in
    record {
      hours = ltb-true t.hour 24 a;
      minutes = ltb-true t.minute 60 b;
      seconds = ltb-true t.second 60 e;
      milliseconds = small;
    }
