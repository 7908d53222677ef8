-- `upper` meets its contract: the signed number comes through its cast unchanged. Assumes nothing.
use Prim.Native.Nat.{◌/◌}
use native.Mathlib.Omega.{arith}
use borrow.Author.Rules.{rules}
use mir.Syntax.{w32}
use Rattle.elements.proofs.TwosComplement.{cast_fits, through}
use Rattle.elements.proofs.upper.Goals as goal

pub overflow_cast-result : goal.overflow_cast-result
overflow_cast-result c = cast_fits w32 (c.args.n / 0x1_0000_0000) (omega arith) c.signed.result c.signed.ensures (search rules)

pub returns : goal.returns
returns c = through w32 (c.args.n / 0x1_0000_0000) (omega arith) c.signed.result c.signed.ensures (search rules)
