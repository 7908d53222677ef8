use mathlib.Core.Path.{◌≡◌, refl, ◌∙◌}
use native.Mathlib.Omega.{arith}
use Rattle.rows.specs.Lookup.{rows_of}
use Rattle.listing_line.proofs.Lines.{lays_none}
use Rattle.listing.proofs.RowLines.{with_room, without_room, lays_row}
use Rattle.listing.proofs.put_rows.Goals as goal

pub returns-then-room-count : goal.returns-then-room-count
returns-then-room-count c =
    let a = c.args in
    rw (without_room a.rows.now a.count (omega arith)) (rw c.at.ensures at c.put_answer.ensures)

pub loop-n-init : goal.loop-n-init
unfolding rows_of
loop-n-init c = (refl, lays_none)

pub loop-n-preserved : goal.loop-n-preserved
loop-n-preserved c =
    (c.put_row_at-end.auto.out ∙ c.loop-n.invariant.0, lays_row c.args.rows.now c.loop-n.n (omega arith) c.loop-n.invariant.1 c.put_row_at-end.ensures)

pub returns : goal.returns
returns c =
    let a = c.args in
    let all : c.loop-n.n ≡ a.count = omega arith in
    rw (with_room a.rows.now a.count (omega arith), ← all) c.loop-n.invariant.1
