-- `number_at` meets its contract: an element of the letter s has 16 bits. Assumes nothing.
use Rattle.quaternions.proofs.Laws.{has_16}
use Rattle.quaternions.proofs.number_at.Goals as goal

pub sixteen-requires : goal.sixteen-requires
sixteen-requires c =
    let a = c.args in
    has_16 a.s.now a.item a.row a.column c.requires (λ i. (c.type_inv.s i).fits) c.element.ensures c.in_ok-e.was
