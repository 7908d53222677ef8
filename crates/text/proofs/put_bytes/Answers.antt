use Prim.Native.Nat.{ℕ, suc, ◌+◌}
use mathlib.Core.Path.{◌≡◌, refl, sym, ◌∙◌}
use native.Mathlib.Numerals.{add-one}
use native.Mathlib.Omega.{arith}
use borrow.Author.Tests.{leb-true}
use lib.ListN.{length, get_or, set, length-set}
use lib.Seq.{paste, paste-zero, paste-suc, take-length}
use Rattle.text.proofs.Laying.{lays_whole, lays_nothing}
use Rattle.text.proofs.put_bytes.Goals as goal

pub loop-i-init : goal.loop-i-init
loop-i-init c = (paste-zero c.args.out.now c.args.at c.args.text.now, refl)

pub overflow_add-out : goal.overflow_add-out
overflow_add-out c = omega (arith, leb-true _ _ (sym c.has_room.ensures ∙ c.if-has_room.true))

pub bounds-out-at : goal.bounds-out-at
bounds-out-at c = omega (arith, leb-true _ _ (sym c.has_room.ensures ∙ c.if-has_room.true))

pub loop-i-preserved : goal.loop-i-preserved
loop-i-preserved c =
    let a = c.args in
    let l = c.loop-i in
    let room = leb-true _ _ (sym c.has_room.ensures ∙ c.if-has_room.true) in
    let x : ℕ = get_or a.text.now l.i 0 in
    let stored : set (paste a.out.now a.at a.text.now l.i) (a.at + l.i) x ≡ paste a.out.now a.at a.text.now (suc l.i) =
    paste-suc a.out.now a.at a.text.now l.i 0 (omega arith) (omega (arith, room))
    in
    (rw (l.invariant.0, add-one) stored, length-set l.out (a.at + l.i) x ∙ l.invariant.1)

pub returns-then-has_room : goal.returns-then-has_room
returns-then-has_room c =
    let a = c.args in
    let l = c.loop-i in
    let room = sym c.has_room.ensures ∙ c.if-has_room.true in
    let all : l.i ≡ length a.text.now = omega arith in
    rw (l.invariant.0, all, take-length) (lays_whole a.out.now a.at a.text.now refl room)

pub returns : goal.returns
returns c =
    let a = c.args in
    lays_nothing a.out.now a.at a.text.now refl (sym c.has_room.ensures ∙ c.if-has_room.false)
