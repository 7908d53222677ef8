-- `whole` meets its contract. Assumes nothing.
use native.Mathlib.Omega.{arith}
use mathlib.Core.Path.{sym, ◌∙◌}
use Rattle.items.proofs.Places.{fits, whole_empty, whole_found, some_of}
use Rattle.items.proofs.whole.Goals as goal

pub returns-then-len-eq0 : goal.returns-then-len-eq0
returns-then-len-eq0 c = whole_empty c.args.s.now c.args.at c.args.type_at c.args.klv c.requires c.data_len-len.result c.data_len-len.ensures.0 c.if-len-eq0.true c.at.result c.at.ensures

pub overflow_add-start : goal.overflow_add-start
overflow_add-start c = omega (arith, fits c.args.s.now c.args.at c.args.klv c.requires, c.data_len-len.ensures.0)

pub overflow_add-end : goal.overflow_add-end
overflow_add-end c = omega (arith, fits c.args.s.now c.args.at c.args.klv c.requires, c.data_len-len.ensures.0)

pub returns : goal.returns
returns c =
    whole_found c.args.s.now c.args.at c.args.type_at c.args.klv c.requires c.data_len-len.result c.data_len-len.ensures.0 c.if-len-eq0.false c.type_for.result c.type_for.ensures
    c.in_ok-type_text.type_text (some_of c.type_for.result c.at-2.result (sym c.ok_or.ensures.value ∙ c.in_ok-type_text.was))
