use Prim.Native.Nat.{ℕ, ◌+◌, ◌-◌, ◌≤◌}
use mathlib.Core.Path.{◌≡◌, refl, ap, ◌∙◌}
use mathlib.Core.List.{List, ◌++◌}
use native.Mathlib.Omega.{arith}
use lib.ListN.{length, drop}
use Rattle.custom_type.specs.Expansion.{gone_through}
use Rattle.custom_type.specs.Held.{up_to}
use Rattle.custom_type.proofs.Gone.{Gone, gone_none, gone_within, gone_all, follows, gone_more}
use Rattle.custom_type.proofs.Laid.{filled}
use Rattle.custom_type.proofs.write.Goals as goal
use Rattle.custom_type.proofs.write.Goals.{After-step-turn}

pub loop-c-init : goal.loop-c-init
unfolding gone_through
loop-c-init c = (gone_none c.args.text.now c.new-held.result c.new-held.ensures, refl, refl)

-- a turn more, and its end within what is lent
turn : (c : After-step-turn) → let c = c in
    Gone c.args.text.now (c.loop-c.c-index + 1) c.step-turn.result.held (c.loop-c.at + c.step-turn.result.times)
turn c =
    gone_more c.args.text.now c.loop-c.c-index c.loop-c.held c.loop-c.at c.loop-c.invariant.0 c.step-turn.result c.loop-c-test.true c.step-turn.ensures

end : (c : After-step-turn) → let c = c in c.loop-c.at + c.step-turn.result.times ≤ length c.loop-c.out
end c =
    let s = c.args.text.now in
    let t = c.step-turn.result in
    omega (arith, gone_within s (c.loop-c.c-index + 1) t.held (c.loop-c.at + t.times) (turn c), c.loop-c.invariant.1, c.requires)

pub overflow_add-end : goal.overflow_add-end
overflow_add-end c = omega (arith, end (goal.at.overflow_add-end c).After-step-turn, c.loop-c.invariant.1)

pub slice_bounds-fill-count : goal.slice_bounds-fill-count
slice_bounds-fill-count c = omega arith

pub slice_bounds-fill-start : goal.slice_bounds-fill-start
slice_bounds-fill-start c = omega arith

pub slice_bounds-fill-end : goal.slice_bounds-fill-end
slice_bounds-fill-end c = end (goal.at.slice_bounds-fill-end c).After-step-turn

pub loop-c-preserved : goal.loop-c-preserved
loop-c-preserved c =
    let l = c.loop-c in
    let a = c.args in
    let s = a.text.now in
    let t = c.step-turn.result in
    let f = follows s l.c-index l.held l.at l.invariant.0 t c.loop-c-test.true c.step-turn.ensures in
    let k = l.at + t.times - l.at in
    let times : k ≡ t.times = omega arith in
    let room : l.at + k ≤ length l.out = omega (arith, end (goal.at.loop-c-preserved c).After-step-turn) in
    let run = c.fill in (
      turn (goal.at.loop-c-preserved c).After-step-turn,
      omega arith,
      filled (up_to s l.c-index) (up_to s (l.c-index + 1)) t a.out.now l.out run.new.part l.at k f l.invariant.0.long times room l.invariant.2 run.ensures,
    )

pub returns : goal.returns
returns c =
    let l = c.loop-c in
    let a = c.args in
    let s = a.text.now in
    let all = gone_all s l.c-index l.held l.at l.invariant.0 c.loop-c-test.false in
    l.invariant.2
    ∙ ap (λ (n : ℕ). (up_to s l.c-index).written ++ drop n a.out.now) l.invariant.0.long
    ∙ ap (λ (w : List ℕ). w ++ drop (length w) a.out.now) all
