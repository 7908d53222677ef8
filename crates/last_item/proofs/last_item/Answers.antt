use mathlib.Core.Path.{◌≡◌, sym, ap, ◌∙◌}
use mathlib.Core.List.{List}
use native.Mathlib.Omega.{arith}
use Prim.Native.Nat.{ℕ}
use Rattle.std.specs.Prelude.{Result, Err}
use Rattle.klv.specs.declared.KLV.{KLV}
use Rattle.klv.specs.declared.Broken.{Broken}
use Rattle.klv.specs.Header.{header_at}
use Rattle.klv.proofs.Place.{at_item}
use Rattle.last_item.proofs.Chain.{start, end, short, past, turn}
use Rattle.last_item.proofs.last_item.Goals as goal

pub loop-place-init : goal.loop-place-init
loop-place-init c = let a = c.args in start a.s.now a.at

-- the header that was read is the one at the loop's place
heard : (s : List ℕ) {at place : ℕ} {r x : Result KLV Broken} → at ≡ place → r ≡ header_at s at → r ≡ x → header_at s place ≡ x
heard s at read found = ap (header_at s) (sym at) ∙ sym read ∙ found

pub returns-in-Err-Short : goal.returns-in-Err-Short
returns-in-Err-Short c =
    let a = c.args in
    ap Err c.at.ensures ∙ short a.s.now a.at c.loop-place.place c.loop-place.last c.loop-place.invariant c.loop-place-test.true (heard a.s.now c.new.ensures c.parse_header.ensures c.in-Err-Short.is ∙ ap Err c.in-Err-Short.field-0-is)

pub returns-in-Err-Past : goal.returns-in-Err-Past
returns-in-Err-Past c =
    let a = c.args in
    ap Err c.at-in-Err-Past.ensures ∙ past a.s.now a.at c.loop-place.place c.loop-place.last c.loop-place.invariant (heard a.s.now c.new.ensures c.parse_header.ensures c.in-Err-Past.is ∙ ap Err c.in-Err-Past.field-0-is)

pub overflow_add-place-in-Ok : goal.overflow_add-place-in-Ok
overflow_add-place-in-Ok c =
    let w = at_item c.args.s.now c.loop-place.place c.in-Ok.klv (heard c.args.s.now c.new.ensures c.parse_header.ensures c.in-Ok.is) in
    omega (arith, w.fits, c.aligned_data_len.ensures.0)

pub loop-place-preserved : goal.loop-place-preserved
loop-place-preserved c =
    let a = c.args in
    turn a.s.now a.at c.loop-place.place c.loop-place.last c.loop-place.invariant _ _ (heard c.args.s.now c.new.ensures c.parse_header.ensures c.in-Ok.is) c.aligned_data_len.ensures.0

pub returns : goal.returns
returns c =
    let a = c.args in
    end a.s.now a.at c.loop-place.place c.loop-place.last c.loop-place.invariant c.loop-place-test.false
