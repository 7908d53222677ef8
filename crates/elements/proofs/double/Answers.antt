-- `elements::double` meets its contract. Assumes nothing.
use mathlib.Core.Path.{sym}
use lib.Ieee.{binary64, div, of_bits}
use Rattle.elements.proofs.Nans.{a_nan, no_nan}
use Rattle.elements.proofs.double.Goals as goal

pub float_from_bits-result : goal.float_from_bits-result
float_from_bits-result c = no_nan binary64 _ c.if-n-gt9218868437227405312.false

pub returns-then-n-gt9218868437227405312 : goal.returns-then-n-gt9218868437227405312
unfolding div of_bits
returns-then-n-gt9218868437227405312 c = sym (a_nan binary64 c.args.n c.if-n-gt9218868437227405312.true)
