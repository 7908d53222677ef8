use Prim.Native.Nat.{◌+◌}
use mathlib.Core.Path.{◌≡◌, refl, ◌∙◌, ap}
use native.Mathlib.Omega.{arith}
use borrow.Author.Rules.{rules}
use Rattle.search.specs.Search.{find_from}
use Rattle.search.proofs.Find.{past_place, not_two_letters}
use Rattle.search.proofs.filters.by_letters.Goals as goal

pub loop-k-init : goal.loop-k-init
loop-k-init c = (search rules, λ _. refl)

pub loop-k-preserved : goal.loop-k-preserved
loop-k-preserved c =
    let a = c.args in
    let letters = c.requires.letter in (
      search rules,
      past_place a.s.now a.from c.loop-k.k c.loop-k.hit _ c.loop-k.invariant.1
          (not_two_letters a.s.now c.loop-k.k (search rules) a.one.at a.one.is a.other.at a.other.is letters.0.0 letters.0.1 letters.1.0 letters.1.1),
    )

pub returns : goal.returns
returns c = λ e.
    let a = c.args in
    let arrived : c.loop-k.k ≡ a.from + 128 = omega arith in
    c.loop-k.invariant.1 e ∙ ap (find_from a.s.now) arrived
