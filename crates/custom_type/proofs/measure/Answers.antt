use Prim.Native.Nat.{◌+◌}
use mathlib.Core.Path.{ap, ◌∙◌}
use native.Mathlib.Omega.{arith}
use lib.ListN.{length}
use Rattle.custom_type.specs.Expansion.{expanded}
use Rattle.custom_type.proofs.Gone.{Gone, gone_none, gone_within, gone_all, gone_more}
use Rattle.custom_type.proofs.Answer.{too_long_lem, all_told}
use Rattle.custom_type.proofs.measure.Goals as goal
use Rattle.custom_type.proofs.measure.Goals.{After-step-turn}

pub loop-c-init : goal.loop-c-init
loop-c-init c = (gone_none c.args.text.now c.new-held.result c.new-held.ensures, omega arith)

pub overflow_sub-written : goal.overflow_sub-written
overflow_sub-written c = omega arith

-- a turn more
turn : (c : After-step-turn) → let c = c in
    Gone c.args.text.now (c.loop-c.c-index + 1) c.step-turn.result.held (c.loop-c.written + c.step-turn.result.times)
turn c =
    gone_more c.args.text.now c.loop-c.c-index c.loop-c.held c.loop-c.written c.loop-c.invariant.0 c.step-turn.result c.loop-c-test.true c.step-turn.ensures

pub returns-then-written-turn : goal.returns-then-written-turn
returns-then-written-turn c =
    let s = c.args.text.now in
    let t = c.step-turn.result in
    too_long_lem (expanded s) (omega (arith, gone_within s (c.loop-c.c-index + 1) t.held (c.loop-c.written + t.times) (turn (goal.at.returns-then-written-turn c).After-step-turn)))

pub overflow_add-written : goal.overflow_add-written
overflow_add-written c = omega arith

pub loop-c-preserved : goal.loop-c-preserved
loop-c-preserved c = (turn (goal.at.loop-c-preserved c).After-step-turn, omega arith)

pub returns : goal.returns
returns c =
    let l = c.loop-c in
    let s = c.args.text.now in
    let all = gone_all s l.c-index l.held l.written l.invariant.0 c.loop-c-test.false in
    all_told (expanded s) l.written (l.invariant.0.long ∙ ap length all) l.invariant.1
