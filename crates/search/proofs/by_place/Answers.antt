use mathlib.Core.Path.{◌≡◌, refl, ◌∙◌, sym, ap}
use native.Mathlib.Omega.{arith}
use borrow.Author.Rules.{rules}
use Rattle.search.specs.Search.{find_from}
use Rattle.search.proofs.Find.{here, not_here}
use Rattle.search.proofs.by_place.Goals as goal

pub loop-k-init : goal.loop-k-init
loop-k-init c = (search rules, refl)

pub returns-then-begins_at : goal.returns-then-begins_at
returns-then-begins_at c =
    let a = c.args in
    c.loop-k.invariant.1 ∙ here a.s.now c.loop-k.k (sym c.begins_at.ensures ∙ c.if-begins_at.true)

pub loop-k-preserved : goal.loop-k-preserved
loop-k-preserved c =
    let a = c.args in
    (search rules, c.loop-k.invariant.1 ∙ not_here a.s.now c.loop-k.k (sym c.begins_at.ensures ∙ c.if-begins_at.false))

pub returns : goal.returns
returns c =
    let a = c.args in
    let arrived : c.loop-k.k ≡ a.end = omega arith in
    c.loop-k.invariant.1 ∙ ap (find_from a.s.now) arrived
