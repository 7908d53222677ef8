-- `parse_day` meets its contract: the first field that is not read, or all of them. Assumes nothing.
use mathlib.Core.Path.{sym}
use Rattle.dates.specs.Fields.{day_of}
use Rattle.dates.proofs.Readings.{later}
use Rattle.dates.proofs.fields.parse_day.Goals as goal

pub returns-in_err-year : goal.returns-in_err-year
unfolding day_of
returns-in_err-year c = rw c.from_residual.ensures (simp (sym c.in_err-year.ensures.0, later), tt)

pub returns-in_err-month : goal.returns-in_err-month
unfolding day_of
returns-in_err-month c = rw c.from_residual-in_err-month.ensures (simp (sym c.in_err-month.ensures.0, later), tt)

pub returns-in_err-day : goal.returns-in_err-day
unfolding day_of
returns-in_err-day c = rw c.from_residual-in_err-day.ensures (simp (sym c.in_err-day.ensures.0, later), tt)

pub returns : goal.returns
unfolding day_of
returns c =
    let bound = c.in_ok-year.ensures.1 in
    (rw (sym c.in_ok-year.ensures.0, sym c.in_ok-month.ensures.0, sym c.in_ok-day.ensures.0), record { first_year = bound.0; last_year = bound.1 })
