-- `nine` meets its contract. The loop's invariant: the numbers so far are those of the columns so far. Assumes nothing.
use mathlib.Core.Path.{◌≡◌}
use lib.ListN.{length, take}
use Rattle.orientation.specs.Matrix.{singles_of, first_row}
use Rattle.orientation.proofs.nine.Given as goal

abbrev pub invariant-loop-column : goal.invariant-loop-column
invariant-loop-column l = (length l.numbers ≡ 9) × (take l.column l.numbers ≡ singles_of (first_row l.s l.at) l.column)
