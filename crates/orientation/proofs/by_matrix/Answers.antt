-- `by_matrix` meets its contract, by the tests of its header. Assumes nothing.
use mathlib.Core.Path.{sym, ap, ◌∙◌, refl}
use Rattle.std.specs.Prelude.{Ok, Err}
use Rattle.std.proofs.lemmas.Result.{err_from_is_err_and}
use Rattle.orientation.specs.Matrix.{first_row}
use Rattle.orientation.proofs.Matrices.{not_served, by_nine, other_count}
use Rattle.orientation.proofs.by_matrix.Goals as goal

pub returns-in_err-axes : goal.returns-in_err-axes
returns-in_err-axes c =
    let a = c.args in
    let p = err_from_is_err_and c.from_residual.result c.from_residual.ensures.1 in
    rw (p.1, p.2) (by_nine a.klv (first_row a.s.now a.at) c.columns_of-columns.ensures c.is_single.ensures c.serves.ensures c.if-is_single.true c.if-serves.true _ (Err _) _ c.if-columns-eq9.true c.nine.ensures c.in_err-axes.ensures refl)

pub returns-then-columns-eq9 : goal.returns-then-columns-eq9
returns-then-columns-eq9 c =
    let a = c.args in
    by_nine a.klv (first_row a.s.now a.at) c.columns_of-columns.ensures c.is_single.ensures c.serves.ensures c.if-is_single.true c.if-serves.true _ (Ok _) _ c.if-columns-eq9.true c.nine.ensures c.in_ok-axes.ensures refl

pub returns-then-serves : goal.returns-then-serves
returns-then-serves c =
    let a = c.args in
    ap Err c.at.ensures ∙ sym (other_count a.klv (first_row a.s.now a.at) c.columns_of-columns.ensures c.is_single.ensures c.serves.ensures c.if-is_single.true c.if-serves.true c.if-columns-eq9.false)

pub returns-else-serves : goal.returns-else-serves
returns-else-serves c =
    let a = c.args in
    sym (not_served a.klv (first_row a.s.now a.at) c.columns_of-columns.ensures c.is_single.ensures c.serves.ensures c.if-is_single.true c.if-serves.false)
