use Prim.Native.Nat.{◌+◌, ◌*◌, ◌^◌, ◌≤◌}
use mathlib.Core.Path.{◌≡◌, sym, ◌∙◌}
use native.Mathlib.Nat.{zero-mul, zero-add}
use native.Mathlib.Numerals.{add-one}
use native.Mathlib.Omega.{arith}
use borrow.Author.Rules.{rules}
use lib.ListN.{get_or}
use Rattle.foundation.specs.Digits.{worth_of}
use Rattle.line.proofs.Reading.{worth_more, worth_end, fits_64, over_with}
use Rattle.line.proofs.worth.Goals as goal

pub loop-c-init : goal.loop-c-init
loop-c-init c = (search rules, rw (zero-mul, zero-add))

pub returns-in_err-checked_mul : goal.returns-in_err-checked_mul
returns-in_err-checked_mul c =
    let a = c.args in
    let over : 2 ^ 64 ≤ c.loop-c.value * a.base = omega (arith, c.in_err-checked_mul.ensures) in
    c.from_residual.ensures ∙ over_with a.base a.s.now c.loop-c.c-index c.loop-c.value c.requires (omega arith) c.loop-c.invariant.1 (omega arith)

pub returns-in_err-value : goal.returns-in_err-value
returns-in_err-value c =
    let a = c.args in
    let over : 2 ^ 64 ≤ c.loop-c.value * a.base + worth_of (get_or a.s.now c.loop-c.c-index 0) = omega (arith, c.in_err-value.ensures, c.in_ok-checked_mul.ensures.1, c.digit_worth.ensures.0) in
    c.from_residual-in_err-value.ensures ∙ over_with a.base a.s.now c.loop-c.c-index c.loop-c.value c.requires (omega arith) c.loop-c.invariant.1 over

pub loop-c-preserved : goal.loop-c-preserved
loop-c-preserved c =
    let a = c.args in
    let n : c.in_ok-value.value ≡ c.loop-c.value * a.base + worth_of (get_or a.s.now c.loop-c.c-index 0) = omega (arith, c.in_ok-value.ensures.1, c.in_ok-checked_mul.ensures.1, c.digit_worth.ensures.0) in
    (omega (arith, c.in_ok-value.ensures.0, c.in_ok-value.ensures.1), rw (n, add-one) (sym (worth_more a.base a.s.now c.loop-c.c-index c.loop-c.value (omega arith)) ∙ c.loop-c.invariant.1))

pub returns : goal.returns
returns c =
    let a = c.args in
    fits_64 a.base a.s.now c.loop-c.value (sym c.loop-c.invariant.1 ∙ worth_end a.base a.s.now c.loop-c.c-index c.loop-c.value (omega arith)) c.loop-c.invariant.0
