-- `put_shape` meets its contract: three numbers one behind the other. Assumes nothing.
use native.Mathlib.Omega.{arith}
use Rattle.listing_line.proofs.Joining.{joins_then}
use Rattle.listing_line.proofs.word.put_shape.Goals as goal

pub returns : goal.returns
returns c =
    joins_then (omega arith) c.put_number-letter.auto.out c.put_number-letter.ensures (joins_then (omega arith) c.put_number-size.auto.out c.put_number-size.ensures c.put_number.ensures)
