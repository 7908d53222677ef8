use native.Mathlib.Omega.{arith}
use Rattle.numerals.proofs.Decimal.{length_one, length_more}
use Rattle.numerals.proofs.decimal_places.Goals as goal

pub loop-rest-init : goal.loop-rest-init
loop-rest-init c = omega arith

pub overflow_add-count : goal.overflow_add-count
overflow_add-count c = omega arith

pub loop-rest-smaller : goal.loop-rest-smaller
loop-rest-smaller c = omega arith

pub loop-rest-preserved : goal.loop-rest-preserved
loop-rest-preserved c = omega (arith, length_more c.loop-rest.rest (omega arith))

pub returns : goal.returns
returns c = omega (arith, length_one c.loop-rest.rest (omega arith))
