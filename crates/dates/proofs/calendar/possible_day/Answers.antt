-- `possible_day` meets its contract, test by test. Assumes nothing.
use borrow.Author.Tests.{le-leb, lt-leb}
use Rattle.dates.specs.Calendar.{possible_day}
use Rattle.dates.proofs.calendar.possible_day.Goals as goal

pub returns-then-d-ge1-2 : goal.returns-then-d-ge1-2
unfolding possible_day
returns-then-d-ge1-2 c = rw (c.days_of_month.ensures, le-leb 1 _ c.if-d-ge1.true, le-leb _ 12 c.if-d-le12.true, le-leb 1 _ c.if-d-ge1-2.true)

pub returns-else-d-ge1-2 : goal.returns-else-d-ge1-2
unfolding possible_day
returns-else-d-ge1-2 c = rw (le-leb 1 _ c.if-d-ge1.true, le-leb _ 12 c.if-d-le12.true, lt-leb 1 _ c.if-d-ge1-2.false)

pub returns-else-d-le12 : goal.returns-else-d-le12
unfolding possible_day
returns-else-d-le12 c = rw (le-leb 1 _ c.if-d-ge1.true, lt-leb _ 12 c.if-d-le12.false)

pub returns-else-d-ge1 : goal.returns-else-d-ge1
unfolding possible_day
returns-else-d-ge1 c = rw (lt-leb 1 _ c.if-d-ge1.false)
