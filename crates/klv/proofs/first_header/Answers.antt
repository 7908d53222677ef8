-- `first_header` meets its contract: the three cases of what stands first. Assumes nothing.
use mathlib.Core.Path.{sym, ap, ◌∙◌}
use native.Mathlib.Omega.{arith}
use Rattle.std.specs.Prelude.{Ok}
use Rattle.klv.specs.Item.{data_len}
use Rattle.klv.specs.Header.{told}
use Rattle.klv.proofs.Item.{first_few, first_past, first_item_lem}
use Rattle.klv.proofs.first_header.Goals as goal

pub returns-then-s-lt-HEADER : goal.returns-then-s-lt-HEADER
returns-then-s-lt-HEADER c = ap told (sym (first_few c.args.s.now c.if-s-lt-HEADER.true))

pub returns-then-data_len-s : goal.returns-then-data_len-s
returns-then-data_len-s c =
    let length_is = c.data_len.ensures.0 ∙ ap data_len c.read_header-klv.ensures in
    ap Ok c.read_header-klv.ensures ∙ ap told (sym (first_item_lem c.args.s.now (omega arith) (omega arith)))

pub returns-else-data_len-s : goal.returns-else-data_len-s
returns-else-data_len-s c =
    let length_is = c.data_len.ensures.0 ∙ ap data_len c.read_header-klv.ensures in
    ap told (sym (first_past c.args.s.now (omega arith) (omega arith)))
