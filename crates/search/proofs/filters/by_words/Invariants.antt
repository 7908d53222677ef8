-- `filters::by_words` meets its contract: as long as there is no hit, the search has come past the pairs without
-- finding. Assumes nothing.
use Prim.Native.Nat.{◌≤◌, ◌+◌, ◌*◌}
use mathlib.Core.Path.{◌≡◌}
use mathlib.Core.Bool.{false}
use Rattle.search.specs.Search.{find_from}
use Rattle.search.proofs.filters.by_words.Given as goal

abbrev pub invariant-loop-pairs : goal.invariant-loop-pairs
invariant-loop-pairs l = (l.pairs ≤ l.count) × (l.hit ≡ false → find_from l.s l.from ≡ find_from l.s (l.from + 2 * l.pairs))
