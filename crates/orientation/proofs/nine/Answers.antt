use Prim.Native.Nat.{◌<◌, ◌≤◌}
use mathlib.Core.Path.{◌≡◌, refl, ap, sym, ◌∙◌}
use native.Mathlib.Omega.{arith}
use lib.ListN.{length, length-set}
use Rattle.std.proofs.lemmas.List.{take_all}
use Rattle.orientation.specs.Matrix.{singles_of, first_row}
use Rattle.orientation.proofs.Matrices.{one_more}
use Rattle.orientation.proofs.nine.Goals as goal

pub loop-column-init : goal.loop-column-init
unfolding singles_of
loop-column-init c = (refl, refl)

pub loop-column-preserved : goal.loop-column-preserved
loop-column-preserved c =
    let l = c.loop-column in
    let long : length l.numbers ≡ 9 = l.invariant.0 in
    let h : l.column < length l.numbers = omega arith in
    (simp length-set long, one_more (first_row c.args.s.now c.args.at) l.numbers l.column c.number.result h l.invariant.1 c.number.ensures)

pub returns : goal.returns
returns c =
    let l = c.loop-column in
    let long : length l.numbers ≡ 9 = l.invariant.0 in
    let all : length l.numbers ≤ l.column = omega arith in
    let end : l.column ≡ 9 = omega arith in
    sym (take_all l.column l.numbers all) ∙ l.invariant.1 ∙ ap (singles_of (first_row c.args.s.now c.args.at)) end
