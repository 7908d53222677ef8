-- `letter_of` meets its contract: what is looked for stands among the letters left, so many columns on. Assumes nothing.
use Prim.Native.Nat.{◌+◌, ◌*◌, ◌≤◌}
use mathlib.Core.Path.{◌≡◌}
use lib.ListN.{take, drop, get_or}
use Rattle.value.specs.Value.{column_letters, widths_of}
use Rattle.structures.proofs.letter_of.Given as goal

abbrev pub invariant-loop-letter : goal.invariant-loop-letter
invariant-loop-letter l = (get_or (column_letters (drop l.letter-index l.letters)) l.left 0 ≡ get_or (column_letters l.letters) l.column 0) × (l.before + widths_of (take l.left (column_letters (drop l.letter-index l.letters))) ≡ widths_of (take l.column (column_letters l.letters))) × (l.before ≤ 8 * l.letter-index)
