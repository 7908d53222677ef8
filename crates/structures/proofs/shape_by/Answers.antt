-- `shape_by` meets its contract. Assumes nothing.
use Prim.Native.Nat.{◌*◌, ◌<◌, ◌^◌}
use mathlib.Core.Path.{ap, ◌∙◌}
use native.Mathlib.Omega.{arith}
use lib.Dec.{lit≤}
use Rattle.structures.proofs.Structured.{counted, shape_short, shape_whole}
use Rattle.std.specs.Prelude.{Err}
use Rattle.structures.proofs.shape_by.Goals as goal

pub overflow_mul-rows : goal.overflow_mul-rows
overflow_mul-rows c =
    let most : c.wider-rows.result * c.row_of-all.result.width < 2 ^ 64 = omega (arith, counted c.wider-rows.result c.wider-rows.result c.row_of-all.result.width 0 (omega arith) (omega arith) c.row_of-all.ensures.small (lit≤ tt)) in
    record { fits = most }

pub returns-then-payload-rows : goal.returns-then-payload-rows
returns-then-payload-rows c = ap Err c.at.ensures ∙ shape_short c.args.klv c.args.payload.now c.args.letters.now c.args.place c.wider-rows.result c.row_of-all.result c.wider-rows.ensures.0 c.row_of-all.ensures c.if-payload-rows.true

pub returns : goal.returns
returns c = shape_whole c.args.klv c.args.payload.now c.args.letters.now c.args.place c.wider-rows.result c.row_of-all.result c.wider-rows.ensures.0 c.row_of-all.ensures c.if-payload-rows.false
