-- `parse_time` meets its contract: the first field that is not read, or all of them. Assumes nothing.
use mathlib.Core.Path.{sym}
use borrow.Author.Tests.{lt-ltb, le-ltb}
use lib.ListN.{get_or}
use Rattle.dates.specs.Fields.{time_of}
use Rattle.dates.proofs.Readings.{later}
use Rattle.dates.proofs.fields.parse_time.Goals as goal

pub returns-then-text-ge128 : goal.returns-then-text-ge128
unfolding time_of
returns-then-text-ge128 c =
    let text = c.args.text.now in
    (simp (le-ltb (get_or text 12 0) 128 c.if-text-ge128.true, later), tt)

pub returns-in_err-hour : goal.returns-in_err-hour
unfolding time_of
returns-in_err-hour c = rw c.from_residual.ensures (simp (sym c.in_err-hour.ensures.0, later), tt)

pub returns-in_err-minute : goal.returns-in_err-minute
unfolding time_of
returns-in_err-minute c = rw c.from_residual-in_err-minute.ensures (simp (sym c.in_err-minute.ensures.0, later), tt)

pub returns-in_err-second : goal.returns-in_err-second
unfolding time_of
returns-in_err-second c = rw c.from_residual-in_err-second.ensures (simp (sym c.in_err-second.ensures.0, later), tt)

pub returns-in_err-millisecond : goal.returns-in_err-millisecond
unfolding time_of
returns-in_err-millisecond c = rw c.from_residual-in_err-millisecond.ensures (simp (sym c.in_err-millisecond.ensures.0, later), tt)

pub returns : goal.returns
unfolding time_of
returns c =
    let ascii = lt-ltb (get_or c.args.text.now 12 0) 128 c.if-text-ge128.false in
    (rw (sym c.in_ok-hour.ensures.0, sym c.in_ok-minute.ensures.0, sym c.in_ok-second.ensures.0, sym c.in_ok-millisecond.ensures.0, ascii), c.in_ok-millisecond.ensures.1)
