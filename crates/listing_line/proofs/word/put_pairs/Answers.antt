-- `put_pairs` meets its contract: a pair, and behind it the other. Assumes nothing.
use native.Mathlib.Omega.{arith}
use Rattle.listing_line.proofs.Joining.{joins_then}
use Rattle.listing_line.proofs.word.put_pairs.Goals as goal

pub returns : goal.returns
returns c =
    joins_then (omega arith) c.put_pair-first.auto.out c.put_pair-first.ensures c.put_pair.ensures
