-- `put_count` meets its contract: two texts, one behind the other. Assumes nothing.
use Rattle.take_lines.proofs.Laying.{one, more}
use Rattle.take_lines.proofs.put_count.Goals as goal

pub returns : goal.returns
returns c = more (one c.put_bytes-end.ensures) (one c.put_decimal.ensures)
