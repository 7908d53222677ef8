-- `by_place` meets its contract: the search has come to the loop's place without finding. Assumes nothing.
use Prim.Native.Nat.{◌≤◌}
use mathlib.Core.Path.{◌≡◌}
use Rattle.search.specs.Search.{find_from}
use Rattle.search.proofs.by_place.Given as goal

abbrev pub invariant-loop-k : goal.invariant-loop-k
invariant-loop-k l = (l.k ≤ l.end) × (find_from l.s l.from ≡ find_from l.s l.k)
