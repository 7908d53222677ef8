-- `write` meets its contract: what the characters gone through stand for is laid in front, and the rest is as it was. Assumes nothing.
use mathlib.Core.Path.{◌≡◌}
use mathlib.Core.List.{◌++◌}
use lib.ListN.{length, drop}
use Rattle.custom_type.specs.Held.{up_to}
use Rattle.custom_type.proofs.Gone.{Gone}
use Rattle.custom_type.proofs.write.Given as goal

abbrev pub invariant-loop-c : goal.invariant-loop-c
invariant-loop-c l = Gone l.text l.c-index l.held l.at × (length l.out ≡ length l.initial.out) × (l.out ≡ (up_to l.text l.c-index).written ++ drop l.at l.initial.out)
