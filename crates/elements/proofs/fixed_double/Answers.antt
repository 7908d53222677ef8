-- `fixed_double` meets its contract: the two parts are handed on. Assumes nothing.
use Prim.Native.Nat.{◌%◌}
use mathlib.Core.Path.{ap, ◌∙◌}
use borrow.Author.Rules.{rules}
use lib.IntN.{ℤ}
use mir.Syntax.{w32}
use mir.ValLaws.{to_z-of_z}
use Rattle.fixed.specs.Fixed.{q31_32}
use Rattle.elements.proofs.fixed_double.Goals as goal

pub returns : goal.returns
returns c = c.q31_32.ensures ∙ ap (λ (z : ℤ). q31_32 z (c.args.n % 0x1_0000_0000)) (to_z-of_z w32 c.upper.result (search rules) ∙ c.upper.ensures)
