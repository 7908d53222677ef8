-- `days_before_year` meets its contract, by the law of the formula. Assumes nothing.
use native.Mathlib.Omega.{arith}
use Rattle.dates.proofs.Years.{formula}
use Rattle.dates.proofs.calendar.days_before_year.Goals as goal

pub overflow_sub-result-2 : goal.overflow_sub-result-2
overflow_sub-result-2 c = omega (arith, formula c.args.year (omega arith))

pub returns : goal.returns
returns c = omega (arith, formula c.args.year (omega arith))
