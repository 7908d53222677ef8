-- `put_long_packet` meets its contract: its line, the refusal, and a front of no rows. Assumes nothing.
use Rattle.take_lines.proofs.Laying.{none, one, lines, more}
use Rattle.take_lines.proofs.put_long_packet.Goals as goal

pub returns-then-whole : goal.returns-then-whole
returns-then-whole c = rw c.if-whole.true none

pub returns : goal.returns
returns c =
    rw c.if-whole.false
    (more c.put_packet_line-line.ensures
    (more (lines (rw c.at.ensures at c.put_answer-refused.ensures)) (more (one c.put_bytes-front.ensures) (lines c.put_answer.ensures))))
