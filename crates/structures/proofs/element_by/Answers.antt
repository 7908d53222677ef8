-- `element_by` meets its contract. Assumes nothing.
use Prim.Native.Nat.{◌*◌, ◌<◌, ◌^◌}
use mathlib.Core.Path.{ap, ◌∙◌}
use native.Mathlib.Omega.{arith}
use lib.Dec.{lit≤}
use Rattle.structures.proofs.Structured.{counted, element_short, no_row, no_column, in_row}
use Rattle.std.specs.Prelude.{Err}
use Rattle.structures.proofs.element_by.Goals as goal

pub overflow_mul-rows : goal.overflow_mul-rows
overflow_mul-rows c =
    let most : c.wider-rows.result * c.row_of-all.result.width < 2 ^ 64 = omega (arith, counted c.wider-rows.result c.wider-rows.result c.row_of-all.result.width 0 (omega arith) (omega arith) c.row_of-all.ensures.small (lit≤ tt)) in
    record { fits = most }

pub returns-then-payload-rows : goal.returns-then-payload-rows
returns-then-payload-rows c = ap Err c.at.ensures ∙ element_short c.args.klv c.args.payload.now c.args.letters.now c.args.place c.wider-rows.result c.row_of-all.result c.wider-rows.ensures.0 c.row_of-all.ensures c.if-payload-rows.true c.args.row c.args.column

pub returns-then-rows-row : goal.returns-then-rows-row
returns-then-rows-row c = ap Err c.at-then-rows-row.ensures ∙ no_row c.args.klv c.args.payload.now c.args.letters.now c.args.place c.wider-rows.result c.row_of-all.result c.wider-rows.ensures.0 c.row_of-all.ensures c.if-payload-rows.false c.args.row c.args.column c.if-rows-row.true

pub returns-then-all-column : goal.returns-then-all-column
returns-then-all-column c = ap Err c.at-then-all-column.ensures ∙ no_column c.args.klv c.args.payload.now c.args.letters.now c.args.place c.wider-rows.result c.row_of-all.result c.wider-rows.ensures.0 c.row_of-all.ensures c.if-payload-rows.false c.args.row c.args.column c.if-rows-row.false c.if-all-column.true

pub overflow_mul-row : goal.overflow_mul-row
overflow_mul-row c = omega (arith, counted c.wider-rows.result c.args.row c.row_of-all.result.width 0 (omega arith) (omega arith) c.row_of-all.ensures.small (lit≤ tt))

pub overflow_add-row : goal.overflow_add-row
overflow_add-row c = record { fits = counted c.wider-rows.result c.args.row c.row_of-all.result.width c.letter_of-its.result.before (omega arith) (omega arith) c.row_of-all.ensures.small c.letter_of-its.ensures.small }

pub returns : goal.returns
returns c = in_row c.args.klv c.args.payload.now c.args.letters.now c.args.place c.wider-rows.result c.row_of-all.result c.wider-rows.ensures.0 c.row_of-all.ensures c.if-payload-rows.false c.args.row c.args.column c.letter_of-its.result c.element_at.result c.if-rows-row.false c.if-all-column.false c.letter_of-its.ensures c.element_at.ensures
