-- `list` meets its contract: what the walk answered, then the rows that it left. Assumes nothing.
use Rattle.listing.proofs.Listed.{lists_rows, lists_refused}
use Rattle.listing.proofs.list.Goals as goal

pub returns-in-Ok : goal.returns-in-Ok
returns-in-Ok c =
    let a = c.args in
    lists_rows a.payload.now a.rows.now c.parse_metadata-answer.result c.parse_metadata-answer.new.rows _ c.parse_metadata-answer.ensures c.in-Ok.is (λ i. (c.type_inv.payload i).fits) c.parse_metadata-answer.auto.rows c.put_answer-first.ensures c.put_rows.ensures

pub returns-in-Err : goal.returns-in-Err
returns-in-Err c =
    let a = c.args in
    lists_refused a.payload.now a.rows.now c.parse_metadata-answer.result c.parse_metadata-answer.new.rows _ c.parse_metadata-answer.ensures c.in-Err.is c.put_answer-first.ensures
