-- `put_digits` meets its contract: what `has_room` found decides, and `spell` lays as many digits as it is asked.
-- Assumes nothing.
use Prim.Native.Nat.{◌+◌, ◌≤◌}
use mathlib.Core.Path.{sym, ◌∙◌}
use native.Mathlib.Omega.{arith}
use borrow.Author.Tests.{leb-true}
use lib.ListN.{length}
use Rattle.numerals.specs.Numerals.{last_digits}
use Rattle.text.proofs.Laying.{lays_whole, lays_nothing}
use Rattle.numerals.proofs.Spelling.{length-last_digits}
use Rattle.numerals.proofs.put_digits.Goals as goal

pub spell-requires : goal.spell-requires
spell-requires c = record {
  lt_base = c.requires;
  count_in_bounds = leb-true _ _ (sym c.has_room.ensures ∙ c.if-has_room.true);
}

pub overflow_add-result : goal.overflow_add-result
overflow_add-result c =
    let a = c.args in
    let room : a.at + a.count ≤ length a.out.now =
    leb-true _ _ (sym c.has_room.ensures ∙ c.if-has_room.true)
    in
    omega arith

pub returns-then-has_room : goal.returns-then-has_room
returns-then-has_room c =
    let a = c.args in
    let room = sym c.has_room.ensures ∙ c.if-has_room.true in
    rw c.spell.ensures
    (lays_whole a.out.now a.at (last_digits a.base a.count a.n) (length-last_digits a.base a.count a.n) room)

pub returns : goal.returns
returns c =
    let a = c.args in
    let room = sym c.has_room.ensures ∙ c.if-has_room.false in
    lays_nothing a.out.now a.at (last_digits a.base a.count a.n) (length-last_digits a.base a.count a.n) room
