use Prim.Native.Nat.{◌+◌}
use mathlib.Core.Path.{refl, ◌∙◌}
use borrow.Author.Rules.{rules}
use Rattle.search.proofs.Find.{past_part}
use Rattle.search.proofs.by_small_blocks.Goals as goal

pub loop-k-init : goal.loop-k-init
loop-k-init c = (search rules, refl)

pub returns-in-Some : goal.returns-in-Some
returns-in-Some c =
    let a = c.args in
    past_part a.s.now a.from c.loop-k.k (c.loop-k.k + 32) c.in_block.result _ c.loop-k.invariant.1 c.in_block.ensures c.in-Some.is

pub loop-k-preserved-then-by_words : goal.loop-k-preserved-then-by_words
loop-k-preserved-then-by_words c =
    let a = c.args in
    (search rules, past_part a.s.now a.from c.loop-k.k (c.loop-k.k + 32) c.in_block.result _ c.loop-k.invariant.1 c.in_block.ensures (c.in_default.is))

pub loop-k-preserved : goal.loop-k-preserved
loop-k-preserved c = (search rules, c.loop-k.invariant.1 ∙ c.by_words.ensures c.if-by_words.false)

pub returns : goal.returns
returns c = c.loop-k.invariant.1 ∙ c.by_place.ensures
