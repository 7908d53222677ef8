-- `text_end` meets its contract: the payload is all there, and what is kept is a front of it. Assumes nothing.
use native.Mathlib.Omega.{arith}
use Rattle.orientation.proofs.TextEnds.{fits, kept_most, text_ends}
use Rattle.orientation.proofs.text_end.Goals as goal

pub overflow_add-start : goal.overflow_add-start
overflow_add-start c = omega (arith, fits c.args.s.now c.args.at c.args.klv c.requires)

pub overflow_add-end : goal.overflow_add-end
overflow_add-end c = omega (arith, fits c.args.s.now c.args.at c.args.klv c.requires, c.data_len.ensures.0)

pub slice_bounds-latin1_len-end : goal.slice_bounds-latin1_len-end
slice_bounds-latin1_len-end c = omega (arith, fits c.args.s.now c.args.at c.args.klv c.requires, c.data_len.ensures.0)

pub overflow_add-result : goal.overflow_add-result
overflow_add-result c =
    let a = c.args in
    omega (
      arith,
      fits c.args.s.now c.args.at c.args.klv c.requires,
      kept_most a.s.now a.at a.klv c.requires _ _ c.data_len.ensures.0 c.latin1_len.ensures,
    )

pub returns : goal.returns
returns c =
    let a = c.args in
    text_ends a.s.now a.at a.klv c.requires _ _ c.data_len.ensures.0 c.latin1_len.ensures
