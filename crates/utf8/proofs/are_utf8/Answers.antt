use Prim.Native.Nat.{ℕ, min}
use mathlib.Core.Path.{◌≡◌, sym, ap, ◌∙◌}
use mathlib.Core.Bool.{Bool, true, false, ◌&&◌}
use native.Mathlib.Omega.{arith}
use lib.ListN.{length}
use Rattle.std.specs.Slice.Iter.{chunks_rest}
use Rattle.texts.specs.Texts.{are_well_formed}
use Rattle.utf8.proofs.Texts.{one_text, well_formed_none, next_text}
use Rattle.utf8.proofs.are_utf8.Goals as goal
use Rattle.utf8.proofs.are_utf8.Goals.{After-is_short_utf8_text}

pub returns-then-size-eq0 : goal.returns-then-size-eq0
returns-then-size-eq0 c =
    let s = c.args.texts.now in
    c.is_utf8_text.ensures ∙ sym (one_text s) ∙ ap (λ (n : ℕ). are_well_formed n s) (sym c.if-size-eq0.true)

-- one text more was looked at
turn : (c : After-is_short_utf8_text) (x : Bool) → c.is_short_utf8_text.result ≡ x
    → (x && are_well_formed c.args.size (chunks_rest c.next.new.self)) ≡ are_well_formed c.args.size c.args.texts.now
turn c x e =
    let l = c.loop-text in
    let cut = c.in-Some.ensures.steps.1 in
    let rest = chunks_rest l.text-iterator in
    let long : length c.in-Some.text.now ≡ min c.args.size (length rest) = cut.1 ∙ ap (λ (n : ℕ). min n (length rest)) l.invariant.0 in
    sym (next_text c.args.size (omega arith) rest c.in-Some.text.now (chunks_rest c.next.new.self) x cut.0 long cut.2 (sym e ∙ c.is_short_utf8_text.ensures))
    ∙ l.invariant.1

pub returns-then-not-is_short_utf8_text : goal.returns-then-not-is_short_utf8_text
returns-then-not-is_short_utf8_text c = turn (goal.at.returns-then-not-is_short_utf8_text c).After-is_short_utf8_text false c.if-not-is_short_utf8_text.true

pub loop-text-preserved : goal.loop-text-preserved
loop-text-preserved c =
    (c.in-Some.ensures.steps.0 ∙ c.loop-text.invariant.0, turn (goal.at.loop-text-preserved c).After-is_short_utf8_text true c.if-not-is_short_utf8_text.false)

pub returns : goal.returns
returns c =
    let l = c.loop-text in
    sym (well_formed_none c.args.size (chunks_rest l.text-iterator) c.in-None.ensures.steps.1.0) ∙ l.invariant.1
