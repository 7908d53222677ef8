-- `beyond_half` meets its contract, by the tests that led to each answer. Assumes nothing.
use native.Mathlib.Omega.{arith}
use borrow.Author.Tests.{ne_eqb}
use Rattle.axes.specs.Back.{beyond}
use Rattle.matrix_to_axes.specs.Letters.{told}
use lib.Ieee.{of_bits, neg}
use Rattle.matrix_to_axes.proofs.beyond_half.Goals as goal

pub returns-then-x : goal.returns-then-x
unfolding beyond told of_bits
returns-then-x c = simp (c.if-x.true, ne_eqb c.args.letter 0 (λ e. omega arith))

pub returns-then-x-2 : goal.returns-then-x-2
unfolding beyond told of_bits neg
returns-then-x-2 c = simp (c.if-x.false, c.if-x-2.true, ne_eqb c.args.less 0 (λ e. omega arith))

pub returns-else-x-2 : goal.returns-else-x-2
unfolding beyond of_bits neg
returns-else-x-2 c = simp (c.if-x.false, c.if-x-2.false)
