-- `put_rows` meets its contract. The loop's invariant: the lines of the rows passed are laid. Assumes nothing.
use mathlib.Core.Path.{◌≡◌}
use mathlib.Core.List.{map}
use lib.ListN.{length}
use Rattle.rows.specs.Lookup.{rows_of}
use Rattle.listing_line.specs.Line.{row_line}
use Rattle.listing_line.specs.Lines.{LaysLines}
use Rattle.listing.proofs.put_rows.Given as goal

abbrev pub invariant-loop-n : goal.invariant-loop-n
invariant-loop-n l = (length l.out ≡ length l.initial.out) × LaysLines (map row_line (rows_of l.n l.rows)) l.initial.out l.at l.end l.out
