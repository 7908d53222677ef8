-- `days_before_month` meets its contract: before a month the days are those of the months in front of it. Assumes nothing.
use mathlib.Core.Path.{◌≡◌}
use Prim.Native.Nat.{◌*◌, ◌-◌, ◌≤◌}
use Rattle.dates.specs.Calendar.{days_of_months}
use Rattle.dates.proofs.calendar.days_before_month.Given as goal

abbrev pub invariant-loop-m : goal.invariant-loop-m
invariant-loop-m l = (l.days ≡ days_of_months l.year (l.m - 1)) × (l.days ≤ 31 * (l.m - 1))
