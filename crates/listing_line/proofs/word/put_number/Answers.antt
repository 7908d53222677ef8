-- `put_number` meets its contract: the number, and behind it what ends it. Assumes nothing.
use native.Mathlib.Omega.{arith}
use Rattle.listing_line.proofs.Joining.{joins, joins_then}
use Rattle.listing_line.proofs.word.put_number.Goals as goal

pub returns : goal.returns
returns c =
    joins_then (omega arith) c.put_decimal-number.auto.out (joins c.put_decimal-number.ensures) (joins c.put.ensures)
