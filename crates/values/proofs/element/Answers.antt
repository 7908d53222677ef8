-- `element` meets its contract: by what was found at the place. Assumes nothing.
use Rattle.std.proofs.lemmas.Result.{err_from_is_err_and}
use Rattle.items.specs.At.{Found}
use Rattle.items.proofs.Places.{by_refusal, by_item}
use Rattle.values.specs.At.{element_of_found}
use Rattle.values.proofs.element.Goals as goal

pub returns-in_err-item : goal.returns-in_err-item
returns-in_err-item c =
    let a = c.args in
    let p = err_from_is_err_and c.from_residual.result c.from_residual.ensures.1 in
    rw (p.1, p.2) (by_refusal c.in_err-item.ensures (λ (x : Found). element_of_found x a.at a.row a.column))

pub returns : goal.returns
returns c =
    let a = c.args in
    by_item c.in_ok-item.ensures (λ (x : Found). element_of_found x a.at a.row a.column) c.of.ensures c.of-2.ensures c.element_of.ensures
