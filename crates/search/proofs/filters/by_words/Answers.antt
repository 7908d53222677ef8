use Prim.Native.Nat.{◌+◌, ◌*◌}
use mathlib.Core.Path.{◌≡◌, ◌∙◌, ap}
use native.Mathlib.Omega.{arith}
use borrow.Author.Rules.{rules}
use Rattle.search.specs.Search.{find_from}
use Rattle.search.proofs.Find.{past_pair}
use Rattle.search.proofs.filters.by_words.Goals as goal

pub loop-pairs-init : goal.loop-pairs-init
loop-pairs-init c = (search rules, λ _. ap (find_from c.args.s.now) (omega arith))

pub loop-pairs-preserved : goal.loop-pairs-preserved
loop-pairs-preserved c =
    let a = c.args in
    (search rules, past_pair a.s.now a.from c.loop-pairs.pairs c.loop-pairs.hit c.may_begin_at_two-hit.result c.loop-pairs.invariant.1 c.may_begin_at_two-hit.ensures)

pub returns : goal.returns
returns c = λ e.
    let a = c.args in
    let arrived : a.from + 2 * c.loop-pairs.pairs ≡ a.from + 2 * a.count = omega arith in
    c.loop-pairs.invariant.1 e ∙ ap (find_from a.s.now) arrived
