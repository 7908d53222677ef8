-- `fixed::q31_32` meets its contract: its two operations are the definition's. Assumes nothing.
use borrow.Author.Rules.{rules}
use lib.Ieee.{in_float}
use Rattle.fixed.specs.Fixed.{q31_32}
use Rattle.fixed.proofs.q31_32.Goals as goal

pub int_to_float-result-3 : goal.int_to_float-result-3
unfolding in_float
int_to_float-result-3 c = search rules

pub returns : goal.returns
unfolding q31_32
returns c = search rules
