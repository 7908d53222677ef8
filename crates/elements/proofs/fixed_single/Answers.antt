-- `fixed_single` meets its contract: the parts come through their casts unchanged. Assumes nothing.
use Prim.Native.Nat.{◌/◌, ◌%◌}
use mathlib.Core.Path.{ap, ◌∙◌}
use native.Mathlib.Omega.{arith}
use borrow.Author.Rules.{rules}
use lib.IntN.{ℤ}
use mir.Syntax.{w16}
use Rattle.fixed.specs.Fixed.{q15_16}
use Rattle.elements.proofs.TwosComplement.{cast_fits, through}
use Rattle.elements.proofs.fixed_single.Goals as goal

pub overflow_cast-signed : goal.overflow_cast-signed
overflow_cast-signed c = cast_fits w16 (c.args.n / 0x1_0000) (omega arith) c.signed.result c.signed.ensures (search rules)

pub returns : goal.returns
returns c =
    let n = c.args.n in
    c.q15_16.ensures ∙ ap (λ (z : ℤ). q15_16 z (n % 0x1_0000)) (through w16 (n / 0x1_0000) (omega arith) c.signed.result c.signed.ensures (search rules))
