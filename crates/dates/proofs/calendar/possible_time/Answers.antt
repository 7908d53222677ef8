-- `possible_time` meets its contract, test by test. Assumes nothing.
use borrow.Author.Tests.{lt-ltb, le-ltb}
use Rattle.dates.specs.Calendar.{possible_time}
use Rattle.dates.proofs.calendar.possible_time.Goals as goal

pub returns-then-t-lt60 : goal.returns-then-t-lt60
unfolding possible_time
returns-then-t-lt60 c = rw (lt-ltb _ 24 c.if-t-lt24.true, lt-ltb _ 60 c.if-t-lt60.true)

pub returns-else-t-lt60 : goal.returns-else-t-lt60
unfolding possible_time
returns-else-t-lt60 c = rw (lt-ltb _ 24 c.if-t-lt24.true, le-ltb _ 60 c.if-t-lt60.false)

pub returns-else-t-lt24 : goal.returns-else-t-lt24
unfolding possible_time
returns-else-t-lt24 c = rw (le-ltb _ 24 c.if-t-lt24.false)
