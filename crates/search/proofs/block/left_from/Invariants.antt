-- `block::left_from` meets its contract: the greatest count is that of the first place. Assumes nothing.
use Prim.Native.Nat.{◌≤◌, ◌<◌, ◌+◌}
use mathlib.Core.Path.{◌≡◌}
use Rattle.search.specs.Search.{find_from, or_else, with_left}
use Rattle.search.proofs.block.left_from.Given as goal

abbrev pub invariant-loop-left : goal.invariant-loop-left
invariant-loop-left l = (l.k + l.left ≡ l.from + l.places) × (l.most ≤ l.places) × (l.left ≤ l.places) × (0 < l.most → l.left < l.most) × (find_from l.s l.from ≡ or_else (with_left (l.from + l.places) l.most) (find_from l.s l.k))

abbrev pub decreases-loop-left : goal.decreases-loop-left
decreases-loop-left l = l.left
