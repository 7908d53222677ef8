-- `row_at` meets its contract: the row where the room has it. Assumes nothing.
use mathlib.Core.Path.{ap}
use native.Mathlib.Omega.{arith}
use Rattle.rows.specs.Row.{row_at}
use Rattle.std.specs.Prelude.{Some}
use Rattle.rows.proofs.Laid.{has_row_lem, has_no_row}
use Rattle.rows.proofs.row_at.Goals as goal

pub returns-then-n-room : goal.returns-then-n-room
unfolding row_at
returns-then-n-room c =
    let a = c.args in
    rw (has_row_lem a.rows.now a.n (omega arith)) (ap Some c.take_row.ensures)

pub returns : goal.returns
unfolding row_at
returns c =
    let a = c.args in
    rw (has_no_row a.rows.now a.n (omega arith))
