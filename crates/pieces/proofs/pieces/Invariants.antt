-- `pieces` meets its contract: those that are counted and those that are left are all, and one is counted in both.
-- Assumes nothing.
use Prim.Native.Nat.{◌+◌, ◌≤◌}
use mathlib.Core.Path.{◌≡◌}
use lib.ListN.{length, drop}
use Rattle.foundation.specs.Pieces.{pieces_of}
use Rattle.pieces.proofs.pieces.Given as goal

abbrev pub invariant-loop-c : goal.invariant-loop-c
invariant-loop-c l = (l.count + length (pieces_of l.b (drop l.c-index l.s)) ≡ length (pieces_of l.b l.s) + 1) × (l.count ≤ l.c-index + 1)
