-- `put_row_at` meets its contract: one line where there is a row, else none. Assumes nothing.
use mathlib.Core.Path.{sym, ◌∙◌}
use Rattle.listing_line.proofs.Lines.{lays_none}
use Rattle.listing.proofs.put_row_at.Goals as goal

pub returns-in-Some : goal.returns-in-Some
returns-in-Some c = rw (sym c.row_at.ensures ∙ c.in-Some.is) c.put_line.ensures

pub returns-in-None : goal.returns-in-None
returns-in-None c = rw (sym c.row_at.ensures ∙ c.in-None.is) lays_none
