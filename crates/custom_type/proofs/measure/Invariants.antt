-- `measure` meets its contract: what is written so far is what the characters gone through stand for, and fits. Assumes nothing.
use Prim.Native.Nat.{◌≤◌}
use Rattle.custom_type.proofs.Gone.{Gone}
use Rattle.custom_type.proofs.measure.Given as goal

abbrev pub invariant-loop-c : goal.invariant-loop-c
invariant-loop-c l = Gone l.text l.c-index l.held l.written × (l.written ≤ 256)
