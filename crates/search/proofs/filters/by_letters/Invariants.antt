-- `filters::by_letters` meets its contract: as long as there is no hit, the search has come to the loop's place without
-- finding. Assumes nothing.
use Prim.Native.Nat.{◌≤◌, ◌+◌}
use mathlib.Core.Path.{◌≡◌}
use mathlib.Core.Bool.{false}
use Rattle.search.specs.Search.{find_from}
use Rattle.search.proofs.filters.by_letters.Given as goal

abbrev pub invariant-loop-k : goal.invariant-loop-k
invariant-loop-k l = (l.k ≤ l.from + 128) × (l.hit ≡ false → find_from l.s l.from ≡ find_from l.s l.k)
