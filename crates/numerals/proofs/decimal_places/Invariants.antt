-- `decimal_places` meets its contract: the digits counted and those of the rest are the number's, and the last is
-- counted from the start. Assumes nothing.
use Prim.Native.Nat.{◌+◌, ◌≤◌}
use mathlib.Core.Path.{◌≡◌}
use lib.ListN.{length}
use Rattle.numerals.specs.Numerals.{decimal}
use Rattle.numerals.proofs.decimal_places.Given as goal

abbrev pub invariant-loop-rest : goal.invariant-loop-rest
invariant-loop-rest l = (l.count + length (decimal l.rest) ≡ length (decimal l.n) + 1) × (l.count + l.rest ≤ l.n + 1)

abbrev pub decreases-loop-rest : goal.decreases-loop-rest
decreases-loop-rest l = l.rest
