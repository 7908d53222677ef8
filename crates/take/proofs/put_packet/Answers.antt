-- `put_packet` meets its contract: what the walk answered, laid with the rows that it left, or with the front. Assumes
-- nothing.
use mathlib.Core.Path.{◌∙◌, sym}
use Rattle.take.proofs.Packet.{takes_rows, takes_nothing, takes_front}
use Rattle.take.proofs.put_packet.Goals as goal

pub returns-then-left_out : goal.returns-then-left_out
returns-then-left_out c =
    let a = c.args in
    takes_nothing a.number a.place a.payload.now a.rows.now c.parse_metadata-answer.result c.parse_metadata-answer.new.rows c.parse_metadata-answer.ensures (sym c.left_out.ensures ∙ c.if-left_out.true)

pub returns-in-Ok : goal.returns-in-Ok
returns-in-Ok c =
    let a = c.args in
    takes_rows a.number a.place a.payload.now a.rows.now c.parse_metadata-answer.result c.parse_metadata-answer.new.rows a.whole _ c.parse_metadata-answer.ensures c.in-Ok.is (λ i. (c.type_inv.payload i).fits)
    c.parse_metadata-answer.auto.rows c.put_packet_line-line.ensures c.put_answer-first.ensures c.put_rows.ensures

pub returns-in-Err : goal.returns-in-Err
returns-in-Err c =
    let a = c.args in
    takes_front a.number a.place a.payload.now a.rows.now c.parse_metadata-answer.result c.parse_metadata-answer.new.rows _ c.parse_metadata-answer.ensures c.in-Err.is
    (sym c.left_out.ensures ∙ c.if-left_out.false) c.put_packet_line-line.ensures c.put_answer-first.ensures c.put_front.ensures
