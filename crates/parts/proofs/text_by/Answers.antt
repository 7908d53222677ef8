-- `text_by` meets its contract: one text, several, or none. Assumes nothing.
use Prim.Native.Nat.{ℕ, ◌*◌, ◌≤◌}
use mathlib.Core.Path.{sym, ap, ◌∙◌, subst}
use native.Mathlib.Omega.{arith}
use Rattle.std.specs.Prelude.{Err}
use Rattle.parts.proofs.Texts.{part_one, part_several, part_none}
use Rattle.parts.proofs.text_by.Goals as goal

pub returns-then-is_one_text : goal.returns-then-is_one_text
returns-then-is_one_text c =
    let a = c.args in
    part_one a.klv a.at a.row _ (sym c.is_one_text.ensures ∙ c.if-is_one_text.true)

pub overflow_mul-result : goal.overflow_mul-result
overflow_mul-result c =
    let few : c.args.row * c.args.klv.size ≤ 1048576 = c.requires.small_row c.if-klv-eq99.true in
    let same : c.args.row * c.wide.result ≤ 1048576 = subst (λ (k : ℕ). c.args.row * k ≤ 1048576) (sym c.wide.ensures.0) few in
    omega arith

pub overflow_add-result : goal.overflow_add-result
overflow_add-result c =
    let few : c.args.row * c.args.klv.size ≤ 1048576 = c.requires.small_row c.if-klv-eq99.true in
    let same : c.args.row * c.wide.result ≤ 1048576 = subst (λ (k : ℕ). c.args.row * k ≤ 1048576) (sym c.wide.ensures.0) few in
    omega (arith, c.requires.at_bound)

pub returns-then-klv-eq99 : goal.returns-then-klv-eq99
returns-then-klv-eq99 c =
    let a = c.args in
    part_several a.klv a.at a.row _ (sym c.is_one_text.ensures ∙ c.if-is_one_text.false) c.if-klv-eq99.true c.wide.result c.wide.ensures.0

pub returns : goal.returns
returns c =
    let a = c.args in
    ap Err c.at.ensures ∙ part_none a.klv a.at a.row _ (sym c.is_one_text.ensures ∙ c.if-is_one_text.false) c.if-klv-eq99.false
