-- `elements::single` meets its contract. Assumes nothing.
use mathlib.Core.Path.{sym}
use lib.Ieee.{binary32, div, of_bits}
use Rattle.elements.proofs.Nans.{a_nan, no_nan}
use Rattle.elements.proofs.single.Goals as goal

pub float_from_bits-result : goal.float_from_bits-result
float_from_bits-result c = no_nan binary32 _ c.if-n-gt2139095040.false

pub returns-then-n-gt2139095040 : goal.returns-then-n-gt2139095040
unfolding div of_bits
returns-then-n-gt2139095040 c = sym (a_nan binary32 c.args.n c.if-n-gt2139095040.true)
