-- `put_bytes` meets its contract: what `has_room` found decides, and after i bytes the first i are pasted. Assumes nothing.
use mathlib.Core.Path.{◌≡◌}
use lib.ListN.{length}
use lib.Seq.{paste}
use Rattle.text.proofs.put_bytes.Given as goal

abbrev pub invariant-loop-i : goal.invariant-loop-i
invariant-loop-i l = (l.out ≡ paste l.initial.out l.at l.text l.i) × (length l.out ≡ length l.initial.out)
