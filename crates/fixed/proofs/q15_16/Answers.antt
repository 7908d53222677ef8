-- `fixed::q15_16` meets its contract: its two operations are the definition's. Assumes nothing.
use borrow.Author.Rules.{rules}
use lib.Ieee.{of_int, of_bits}
use Rattle.fixed.specs.Fixed.{q15_16}
use Rattle.fixed.proofs.q15_16.Goals as goal

pub returns : goal.returns
unfolding q15_16 of_int of_bits
returns c = search rules
