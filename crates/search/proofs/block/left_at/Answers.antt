-- `block::left_at` meets its contract, by whether DEVC begins there. Assumes nothing.
use mathlib.Core.Path.{sym, ◌∙◌, ap}
use mathlib.Core.Bool.{Bool, cond}
use Rattle.search.proofs.block.left_at.Goals as goal

pub returns-then-begins_at : goal.returns-then-begins_at
returns-then-begins_at c =
    let a = c.args in
    ap (λ (b : Bool). cond b a.left 0) (sym c.if-begins_at.true ∙ c.begins_at.ensures)

pub returns-else-begins_at : goal.returns-else-begins_at
returns-else-begins_at c =
    let a = c.args in
    ap (λ (b : Bool). cond b a.left 0) (sym c.if-begins_at.false ∙ c.begins_at.ensures)
