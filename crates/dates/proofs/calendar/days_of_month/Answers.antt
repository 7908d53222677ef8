-- `days_of_month` meets its contract: its array is the list of the months. Assumes nothing.
use Rattle.dates.specs.Calendar.{days_of_month}
use Rattle.dates.proofs.calendar.days_of_month.Goals as goal

pub returns : goal.returns
unfolding days_of_month
returns c = rw c.february.ensures
