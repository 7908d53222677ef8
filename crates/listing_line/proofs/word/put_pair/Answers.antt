-- `put_pair` meets its contract: the word, and behind it the number. Assumes nothing.
use native.Mathlib.Omega.{arith}
use Rattle.listing_line.proofs.Joining.{joins, joins_then}
use Rattle.listing_line.proofs.word.put_pair.Goals as goal

pub returns : goal.returns
returns c =
    joins_then (omega arith) c.put_bytes-named.auto.out (joins c.put_bytes-named.ensures) c.put_number.ensures
