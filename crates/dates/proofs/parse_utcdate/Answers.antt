-- `parse_utcdate` meets its contract, by what the day, the time and the milliseconds ensure. Assumes nothing.
use mathlib.Core.Path.{◌≡◌, sym, subst, ◌∙◌}
use borrow.Author.Tests.{lt-ltb, le-ltb}
use Rattle.std.specs.Prelude.{Option, None, Result, Err}
use Rattle.std.specs.Option.{ok_or}
use Rattle.std.proofs.lemmas.Result.{err_from_is_err_and}
use Rattle.foundation.specs.declared.refusal.Fault.{Fault}
use Rattle.foundation.specs.declared.refusal.Fault.TheVariants as fault
use Rattle.dates.specs.Bounds.{DayInRange, TimeInRange}
use Rattle.dates.specs.Date.{date_of}
use Rattle.dates.proofs.parse_utcdate.Goals as goal

-- the fault for what is not read
unread : {R : Type 0} (r : Option R) (f g : Fault) → r ≡ None → Err g ≡ ok_or r f → g ≡ f
unread {R = R} r f g is e =
    let q : ◌≡◌ {A = Result R Fault} (Err g) (Err f) = rw is at e in
    cc

pub returns-then-text-lt16 : goal.returns-then-text-lt16
unfolding date_of
returns-then-text-lt16 c = rw (lt-ltb _ 16 c.if-text-lt16.true)

pub returns-in_err-day : goal.returns-in_err-day
unfolding date_of
returns-in_err-day c =
    let day = sym c.parse_day.ensures.0 ∙ c.in_err-day.ensures.ok_part in
    let p = err_from_is_err_and c.from_residual.result c.from_residual.ensures.1 in
    let is = unread c.parse_day.result fault.Unreadable _ c.in_err-day.ensures.ok_part c.in_err-day.ensures.value in
    rw (p.1, p.2, is, le-ltb _ 16 c.if-text-lt16.false, day)

pub returns-in_err-time : goal.returns-in_err-time
unfolding date_of
returns-in_err-time c =
    let day = sym c.parse_day.ensures.0 ∙ c.in_ok-day.ensures.ok_part in
    let time = sym c.parse_time.ensures.0 ∙ c.in_err-time.ensures.ok_part in
    let p = err_from_is_err_and c.from_residual-in_err-time.result c.from_residual-in_err-time.ensures.1 in
    let is = unread c.parse_time.result fault.Unreadable _ c.in_err-time.ensures.ok_part c.in_err-time.ensures.value in
    rw (p.1, p.2, is, le-ltb _ 16 c.if-text-lt16.false, day, time)

pub milliseconds-requires : goal.milliseconds-requires
milliseconds-requires c =
    let day = subst DayInRange c.in_ok-day.ensures.ok_part c.parse_day.ensures.1 in
    (day, subst TimeInRange c.in_ok-time.ensures.ok_part c.parse_time.ensures.1)

pub returns : goal.returns
unfolding date_of
returns c =
    let day = sym c.parse_day.ensures.0 ∙ c.in_ok-day.ensures.ok_part in
    let time = sym c.parse_time.ensures.0 ∙ c.in_ok-time.ensures.ok_part in
    rw (le-ltb _ 16 c.if-text-lt16.false, day, time, c.milliseconds.ensures)
