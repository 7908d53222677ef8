-- `put_counts` meets its contract: three words with their numbers, and the end of a line. Assumes nothing.
use Rattle.take_lines.proofs.Laying.{one, more}
use Rattle.take_lines.proofs.put_counts.Goals as goal

pub returns : goal.returns
returns c = more c.put_count-first.ensures (more c.put_count-second.ensures (more c.put_count-third.ensures (one c.put.ensures)))
