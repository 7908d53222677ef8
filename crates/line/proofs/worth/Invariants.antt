-- `worth` meets its contract: what was read, weighed, and what is left are worth the whole. Assumes nothing.
use Prim.Native.Nat.{◌+◌, ◌*◌, ◌^◌, ◌<◌}
use mathlib.Core.Path.{◌≡◌}
use lib.ListN.{length, drop}
use Rattle.foundation.specs.Digits.{worth}
use Rattle.line.proofs.worth.Given as goal

abbrev pub invariant-loop-c : goal.invariant-loop-c
invariant-loop-c l = (l.value < 2 ^ 64) × (l.value * l.base ^ length (drop l.c-index l.s) + worth l.base (drop l.c-index l.s) ≡ worth l.base l.s)
