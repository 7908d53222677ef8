-- `row_of` meets its contract: what was counted, and what the letters left would add, is the whole row's. Assumes nothing.
use Prim.Native.Nat.{◌+◌, ◌*◌, ◌≤◌}
use mathlib.Core.Path.{◌≡◌}
use lib.ListN.{length, drop}
use Rattle.value.specs.Value.{column_letters, widths_of}
use Rattle.structures.proofs.row_of.Given as goal

abbrev pub invariant-loop-letter : goal.invariant-loop-letter
invariant-loop-letter l = (l.columns + length (column_letters (drop l.letter-index l.letters)) ≡ length (column_letters l.letters)) × (l.width + widths_of (column_letters (drop l.letter-index l.letters)) ≡ widths_of (column_letters l.letters)) × (l.columns ≤ l.letter-index) × (l.width ≤ 8 * l.letter-index)
