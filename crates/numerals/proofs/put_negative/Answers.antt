-- `put_negative` meets its contract: where both fit, the minus and the digits behind it are the two joined. Assumes
-- nothing.
use Prim.Native.Nat.{◌+◌, ◌≤◌, ◌<◌}
use mathlib.Core.Path.{refl, sym, ◌∙◌}
use mathlib.Core.List.{[], ◌∷◌}
use native.Mathlib.Omega.{arith}
use borrow.Author.Tests.{le-leb, lt-leb, leb-true, leb-false}
use lib.ListN.{length, set}
use Rattle.text.specs.Lay.{Lays}
use Rattle.numerals.specs.Numerals.{decimal}
use Rattle.numerals.proofs.Decimal.{last_decimal}
use Rattle.text.proofs.Laying.{lays_whole, lays_nothing, lays_all, over_one}
use Rattle.numerals.proofs.put_negative.Goals as goal

pub returns-then-out-at : goal.returns-then-out-at
returns-then-out-at c =
    let a = c.args in
    let short : length a.out.now < a.at + length (45 ∷ decimal a.n) = omega arith in
    lays_nothing a.out.now a.at (45 ∷ decimal a.n) refl (lt-leb _ _ short)

pub returns-then-has_room : goal.returns-then-has_room
returns-then-has_room c =
    let a = c.args in
    let out = a.out.now in
    let text = decimal a.n in
    let room : a.at + 1 + length text ≤ length out =
    leb-true _ _ (rw (← c.decimal_places-count.ensures) (sym c.has_room.ensures ∙ c.if-has_room.true))
    in
    let minus : Lays (45 ∷ []) out a.at (a.at + 1) (set out a.at 45) =
    rw (over_one out a.at 45 (omega arith)) (lays_whole out a.at (45 ∷ []) refl (le-leb (a.at + 1) (length out) (omega arith)))
    in
    let number : Lays text (set out a.at 45) (a.at + 1) c.put_digits.result c.put_digits.new.out =
    rw (← last_decimal a.n, ← c.decimal_places-count.ensures) c.put_digits.ensures
    in
    lays_all (45 ∷ []) text out a.at (a.at + 1) (set out a.at 45) c.put_digits.result c.put_digits.new.out
    (omega arith) (omega arith) minus number

pub returns : goal.returns
returns c =
    let a = c.args in
    let short : length a.out.now < a.at + 1 + length (decimal a.n) =
    leb-false _ _ (rw (← c.decimal_places-count.ensures) (sym c.has_room.ensures ∙ c.if-has_room.false))
    in
    let shorter : length a.out.now < a.at + length (45 ∷ decimal a.n) = omega arith in
    lays_nothing a.out.now a.at (45 ∷ decimal a.n) refl (lt-leb _ _ shorter)
