-- `take_row` meets its contract: each field is the number at its place. Assumes nothing.
use Rattle.rows.proofs.Laid.{reads}
use Rattle.rows.proofs.take_row.Goals as goal

pub returns : goal.returns
returns c =
    let a = c.args in
    reads a.rows.now a.n
