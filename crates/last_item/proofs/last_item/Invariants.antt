-- `last_item` meets its contract: the loop keeps what the chain has met so far, and what is left of the bytes falls.
-- Assumes nothing.
use Prim.Native.Nat.{◌-◌}
use lib.ListN.{length}
use Rattle.last_item.proofs.Chain.{SoFar}
use Rattle.last_item.proofs.last_item.Given as goal

abbrev pub invariant-loop-place : goal.invariant-loop-place
invariant-loop-place l = SoFar l.s l.at l.place l.last

abbrev pub decreases-loop-place : goal.decreases-loop-place
decreases-loop-place l = length l.s - l.place
