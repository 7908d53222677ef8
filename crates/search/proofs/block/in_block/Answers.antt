-- `block::in_block` meets its contract: the place by the count of places left. Assumes nothing.
use Prim.Native.Nat.{◌+◌, ◌-◌}
use mathlib.Core.Path.{◌≡◌, ◌∙◌, ap}
use native.Mathlib.Omega.{arith}
use Rattle.std.specs.Prelude.{ℕ, Option, Some}
use Rattle.search.specs.Search.{find_from, or_else, with_left}
use Rattle.search.proofs.Find.{some_left}
use Rattle.search.proofs.block.in_block.Goals as goal

pub returns-then-left-eq0 : goal.returns-then-left-eq0
returns-then-left-eq0 c =
    let a = c.args in
    c.left_from-left.ensures.1
    ∙ ap (λ left. or_else (with_left (a.from + a.places) left) (find_from a.s.now (a.from + a.places))) c.if-left-eq0.true

pub returns : goal.returns
returns c =
    let a = c.args in
    let left = c.left_from-left.result in
    let fits = c.left_from-left.ensures.0 in
    let place : a.from + a.places - left ≡ a.from + c.from.result = omega arith in
    c.left_from-left.ensures.1
    ∙ ap (λ (found : Option ℕ). or_else found (find_from a.s.now (a.from + a.places)))
    (some_left (a.from + a.places) left c.if-left-eq0.false ∙ ap Some place)
