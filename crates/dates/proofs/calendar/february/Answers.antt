-- `february` meets its contract, by what `leap` ensures. Assumes nothing.
use mathlib.Core.Path.{sym}
use Rattle.dates.proofs.calendar.february.Goals as goal

pub returns-then-leap : goal.returns-then-leap
returns-then-leap c = rw (sym c.leap.ensures, c.if-leap.true)

pub returns-else-leap : goal.returns-else-leap
returns-else-leap c = rw (sym c.leap.ensures, c.if-leap.false)
