use Prim.Native.Nat.{◌+◌}
use mathlib.Core.Path.{refl, ◌∙◌}
use native.Mathlib.Omega.{arith}
use borrow.Author.Rules.{rules}
use Rattle.search.proofs.Find.{past_part}
use Rattle.search.proofs.First.{comes_to}
use Rattle.search.proofs.by_blocks.Goals as goal

pub loop-k-init : goal.loop-k-init
loop-k-init c = (search rules, refl)

pub returns-then-end-start-lt128 : goal.returns-then-end-start-lt128
returns-then-end-start-lt128 c =
    c.loop-k.invariant.1 ∙ c.pass-start.ensures.2 ∙ c.by_place.ensures

pub returns-in-Some : goal.returns-in-Some
returns-in-Some c =
    let a = c.args in
    past_part a.s.now a.from c.pass-start.result (c.pass-start.result + 128) c.in_great_block.result _ (c.loop-k.invariant.1 ∙ c.pass-start.ensures.2) c.in_great_block.ensures c.in-Some.is

pub loop-k-preserved : goal.loop-k-preserved
loop-k-preserved c =
    let a = c.args in
    let none = past_part a.s.now c.pass-start.result c.pass-start.result (c.pass-start.result + 128) c.in_great_block.result _ refl c.in_great_block.ensures (c.in_default.is) in
    (search rules, c.loop-k.invariant.1 ∙ c.pass-start.ensures.2 ∙ comes_to a.s.now c.pass-start.result (c.pass-start.result + 127) (c.pass-start.result + 128) (omega arith) (omega arith) none)

pub returns : goal.returns
returns c = c.loop-k.invariant.1 ∙ c.by_place-2.ensures
