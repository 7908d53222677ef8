-- `columns_at` meets its contract: by what was found at the place. Assumes nothing.
use Rattle.std.proofs.lemmas.Result.{err_from_is_err_and}
use Rattle.items.specs.At.{Found}
use Rattle.items.proofs.Places.{by_refusal, by_item}
use Rattle.values.specs.At.{columns_of_found}
use Rattle.values.proofs.columns_at.Goals as goal

pub returns-in_err-asked : goal.returns-in_err-asked
returns-in_err-asked c =
    let a = c.args in
    let p = err_from_is_err_and c.from_residual.result c.from_residual.ensures.1 in
    rw (p.1, p.2) (by_refusal c.in_err-asked.ensures (λ (x : Found). columns_of_found x a.at a.row))

pub returns : goal.returns
returns c =
    let a = c.args in
    by_item c.in_ok-asked.ensures (λ (x : Found). columns_of_found x a.at a.row) c.of.ensures c.of-2.ensures c.columns_of.ensures
