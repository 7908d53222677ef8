-- `type_of` meets its contract. Assumes nothing.
use Prim.Native.Nat.{◌+◌, ◌-◌}
use mathlib.Core.Path.{refl}
use native.Mathlib.Omega.{arith}
use lib.ListN.{take, drop, length-take}
use Rattle.texts.proofs.Kept.{kept_length}
use Rattle.items.proofs.Places.{fits, type_empty, type_is}
use mathlib.Core.Bool.{not}
use mathlib.Core.Path.{ap}
use Rattle.items.proofs.type_of.Goals as goal

pub returns-then-len-eq0 : goal.returns-then-len-eq0
returns-then-len-eq0 c = type_empty c.args.s.now c.args.at c.args.klv c.requires c.data_len-len.result c.data_len-len.ensures.0 c.if-len-eq0.true

pub overflow_add-start : goal.overflow_add-start
overflow_add-start c = omega (arith, fits c.args.s.now c.args.at c.args.klv c.requires, c.data_len-len.ensures.0)

pub overflow_add-end : goal.overflow_add-end
overflow_add-end c = omega (arith, fits c.args.s.now c.args.at c.args.klv c.requires, c.data_len-len.ensures.0)

pub slice_bounds-latin1_len-end : goal.slice_bounds-latin1_len-end
slice_bounds-latin1_len-end c = omega (arith, fits c.args.s.now c.args.at c.args.klv c.requires, c.data_len-len.ensures.0)

pub overflow_add-result : goal.overflow_add-result
overflow_add-result c =
    let at = c.args.at in
    let len = c.data_len-len.result in
    let rest = drop (at + 8) c.args.s.now in
    omega (
      arith,
      c.latin1_len.ensures,
      kept_length (take (at + 8 + len - (at + 8)) rest),
      length-take (at + 8 + len - (at + 8)) rest,
      fits c.args.s.now at c.args.klv c.requires,
      c.data_len-len.ensures.0,
    )

pub returns : goal.returns
returns c = type_is c.args.s.now c.args.at c.args.klv c.requires c.data_len-len.result (c.args.at + 8) c.latin1_len.result c.is_type_text.result c.data_len-len.ensures.0 c.if-len-eq0.false c.is_type_text.ensures (ap not c.if-not-is_type_text.false) refl c.latin1_len.ensures
