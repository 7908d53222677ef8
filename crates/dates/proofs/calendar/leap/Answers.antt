-- `leap` meets its contract, test by test. Assumes nothing.
use borrow.Author.Tests.{eq-eqb, ne_eqb}
use Rattle.dates.proofs.calendar.leap.Goals as goal

pub returns-then-year-ne0 : goal.returns-then-year-ne0
returns-then-year-ne0 c = rw (eq-eqb _ 0 c.if-year-eq0.true, ne_eqb _ 0 c.if-year-ne0.true)

pub returns-else-year-ne0 : goal.returns-else-year-ne0
returns-else-year-ne0 c = rw (eq-eqb _ 0 c.if-year-eq0.true, eq-eqb _ 0 c.if-year-ne0.false)

pub returns-else-year-eq0 : goal.returns-else-year-eq0
returns-else-year-eq0 c = rw (ne_eqb _ 0 c.if-year-eq0.false)
