use Prim.Native.Nat.{suc, ◌-◌}
use mathlib.Core.Path.{◌≡◌, refl}
use native.Mathlib.Omega.{arith}
use Rattle.numerals.proofs.Spelling.{one_more, all_laid}
use Rattle.numerals.proofs.spell.Goals as goal

pub loop-left-init : goal.loop-left-init
loop-left-init c = record { within = omega arith; long = refl; front = refl; back = refl }

pub loop-left-preserved : goal.loop-left-preserved
loop-left-preserved c =
    let a = c.args in
    let more : c.loop-left.left ≡ suc (c.loop-left.left - 1) = omega arith in
    rw c.digit.ensures (one_more a.out.now a.at a.n a.base a.count c.loop-left.out c.loop-left.rest (c.loop-left.left - 1) (omega arith) (rw more at c.loop-left.invariant))

pub returns : goal.returns
returns c =
    let a = c.args in
    let none : c.loop-left.left ≡ 0 = omega arith in
    all_laid a.out.now a.at a.n a.base a.count c.loop-left.out c.loop-left.rest (rw none at c.loop-left.invariant)
