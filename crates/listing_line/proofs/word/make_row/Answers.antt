-- `make_row` meets its contract: its parts one behind the other, which fit. Assumes nothing.
use Prim.Native.Nat.{◌<◌}
use mathlib.Core.Path.{◌∙◌}
use native.Mathlib.Omega.{arith}
use Rattle.listing_line.proofs.Parts.{row_parts}
use Rattle.listing_line.proofs.Short.{row_short}
use Rattle.listing_line.proofs.Joining.{makes, joins_then}
use borrow.Author.Rules.{rules}
use Rattle.listing_line.proofs.word.make_row.Goals as goal

pub returns : goal.returns
returns c =
    let row = c.args.row in
    let p : row.place < 4294967296 = search rules in
    let s : row.shape < 4294967296 = search rules in
    let d : row.depth < 4294967296 = search rules in
    let all = joins_then (omega arith) c.put_number-place.auto.out c.put_number-place.ensures
    (joins_then (omega arith) c.put_keys-keys.auto.out c.put_keys-keys.ensures (joins_then (omega arith) c.put_shape-shape.auto.out c.put_shape-shape.ensures c.put_number.ensures)) in
    makes c.args.line.now (row_short row p s d) (omega arith) (omega arith) (c.put_number.auto.out ∙ c.put_shape-shape.auto.out ∙ c.put_keys-keys.auto.out ∙ c.put_number-place.auto.out) (rw (← row_parts row) all)
