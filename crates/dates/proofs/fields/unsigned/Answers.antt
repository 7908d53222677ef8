-- `unsigned` meets its contract, by the laws of a field with and without `+`. Assumes nothing.
use mathlib.Core.Path.{sym, ◌∙◌}
use Prim.Native.Nat.{◌+◌, ◌-◌}
use native.Mathlib.Omega.{arith}
use Rattle.dates.proofs.Signs.{plus, no_plus, wider}
use Rattle.dates.proofs.fields.unsigned.Goals as goal

pub returns-then-text-from-eq43 : goal.returns-then-text-from-eq43
returns-then-text-from-eq43 c =
    let a = c.args in
    let is = c.digits.ensures.0 ∙ sym (plus a.text.now a.from a.to (omega arith) (omega arith) c.if-text-from-eq43.true) in
    (is, wider (a.to - (a.from + 1)) (a.to - a.from) c.digits.result (omega arith) c.digits.ensures.1)

pub returns : goal.returns
returns c =
    let a = c.args in
    (c.digits-2.ensures.0 ∙ sym (no_plus a.text.now a.from a.to (omega arith) (omega arith) c.if-text-from-eq43.false), c.digits-2.ensures.1)
