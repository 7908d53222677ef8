use mathlib.Core.Path.{◌≡◌, refl}
use Prim.Native.Nat.{◌+◌, ◌-◌}
use native.Mathlib.Omega.{arith}
use Rattle.dates.specs.Calendar.{days_of_months}
use Rattle.dates.proofs.Months.{month_at_most_31, next_month}
use Rattle.dates.proofs.calendar.days_before_month.Goals as goal

pub loop-m-init : goal.loop-m-init
unfolding days_of_months
loop-m-init c = (refl, omega arith)

pub overflow_add-days : goal.overflow_add-days
overflow_add-days c = omega (arith, month_at_most_31 c.args.year c.loop-m.m)

pub loop-m-preserved : goal.loop-m-preserved
loop-m-preserved c =
    let year = c.args.year in
    let m = c.loop-m.m in
    let this : m - 1 + 1 ≡ m = omega arith in
    let next : m + 1 - 1 ≡ m = omega arith in
    (rw next (omega (arith, rw this at (next_month year (m - 1)))), omega (arith, month_at_most_31 year m))
