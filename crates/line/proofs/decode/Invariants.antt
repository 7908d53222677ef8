-- `decode` meets its contract: after i bytes the first i are pasted. Assumes nothing.
use Prim.Native.Nat.{◌≤◌}
use mathlib.Core.Path.{◌≡◌}
use lib.ListN.{length}
use lib.Seq.{paste}
use Rattle.line.specs.Read.{bytes_in}
use Rattle.line.proofs.decode.Given as goal

abbrev pub invariant-loop-i : goal.invariant-loop-i
invariant-loop-i l = (l.i ≤ l.count) × (l.out ≡ paste l.initial.out 0 (bytes_in l.s) l.i) × (length l.out ≡ length l.initial.out)
