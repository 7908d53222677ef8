-- `no_header` meets its contract. Assumes nothing.
use Prim.Native.Nat.{◌+◌}
use mathlib.Core.Path.{sym, ◌∙◌}
use native.Mathlib.Omega.{arith}
use lib.ListN.{length}
use borrow.Author.Tests.{lt-ltb}
use Rattle.header_bytes.proofs.HeaderBytes.{few_after}
use Rattle.header_bytes.proofs.no_header.Goals as goal

pub returns-then-s-lt-HEADER : goal.returns-then-s-lt-HEADER
returns-then-s-lt-HEADER c = let a = c.args in lt-ltb _ _ c.if-s-lt-HEADER.true ∙ sym (lt-ltb (length a.s.now) (a.place + 8) (omega (arith, c.if-s-lt-HEADER.true)))

pub returns-else-s-lt-HEADER : goal.returns-else-s-lt-HEADER
returns-else-s-lt-HEADER c = few_after c.args.s.now c.args.place (omega (arith, c.if-s-lt-HEADER.false))
