-- `put_signed` meets its contract: below zero a minus stands before the number, from zero on nothing. Assumes nothing.
use mathlib.Core.Path.{◌≡◌}
use mathlib.Core.Bool.{true, false}
use lib.IntN.{pos}
use lib.Signed.{lt_z}
use mir.Syntax.{w64}
use mir.Facts.{to_z-of_z}
use Rattle.numerals.proofs.Negative.{signed_below, signed_above}
use Rattle.numerals.proofs.put_signed.Goals as goal

pub returns-then-n-lt0 : goal.returns-then-n-lt0
returns-then-n-lt0 c =
    let n = c.args.n in
    let same = to_z-of_z {w = w64} c.ranges.n in
    let taken : lt_z n (pos 0) ≡ true = rw same at c.if-n-lt0.true in
    rw (signed_below n taken, ← same, ← c.unsigned_abs.ensures.value) c.put_negative.ensures

pub returns : goal.returns
returns c =
    let n = c.args.n in
    let same = to_z-of_z {w = w64} c.ranges.n in
    let left : lt_z n (pos 0) ≡ false = rw same at c.if-n-lt0.false in
    rw (signed_above n left, ← same, ← c.unsigned_abs-2.ensures.value) c.put_decimal.ensures
