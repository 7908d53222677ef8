use mathlib.Core.Path.{◌≡◌, ap, sym, ◌∙◌}
use Prim.Native.Nat.{ℕ, ◌+◌, ◌-◌}
use native.Mathlib.Omega.{arith}
use lib.Dec.{lit<}
use Rattle.dates.specs.Fields.{field}
use Rattle.dates.proofs.Digits.{digits_after, from_none, one_more, no_digit, no_more, ten_times, ten_times_fits}
use Rattle.dates.proofs.fields.digits.Goals as goal

pub loop-i-init : goal.loop-i-init
loop-i-init c =
    let a = c.args in
    let none : a.from - a.from ≡ 0 = omega arith in
    (from_none a.text.now a.from a.to (omega arith) (omega arith), rw none (lit< tt))

pub returns-then-not-is_ascii_digit : goal.returns-then-not-is_ascii_digit
returns-then-not-is_ascii_digit c =
    let l = c.loop-i in
    (sym (l.invariant.0 ∙ no_digit c.args.text.now l.i c.args.to (omega arith) (omega arith) l.number c.if-not-is_ascii_digit.ensures.cases), tt)

pub overflow_mul-number : goal.overflow_mul-number
overflow_mul-number c =
    let l = c.loop-i in
    omega (arith, ten_times_fits (l.i - c.args.from) l.number 0 (omega arith) l.invariant.1 (lit< tt))

pub overflow_add-number : goal.overflow_add-number
overflow_add-number c =
    let l = c.loop-i in
    let digit = c.if-not-is_ascii_digit.ensures.cases in
    record { fits = ten_times_fits (l.i - c.args.from) l.number c.from.result (omega arith) l.invariant.1 (omega arith) }

pub loop-i-preserved : goal.loop-i-preserved
loop-i-preserved c =
    let a = c.args in
    let l = c.loop-i in
    let digit = c.if-not-is_ascii_digit.ensures.cases in
    let next = one_more a.text.now l.i a.to (omega arith) (omega arith) l.number digit.0 digit.1 in
    let k : l.i + 1 - a.from ≡ l.i - a.from + 1 = omega arith in (
      rw c.from.ensures (l.invariant.0 ∙ next),
      rw k (ten_times (l.i - a.from) l.number c.from.result l.invariant.1 (omega arith)),
    )

pub returns : goal.returns
returns c =
    let a = c.args in
    let l = c.loop-i in
    let all : l.i ≡ a.to = omega arith in
    let rest = ap (λ (i : ℕ). digits_after l.number (field a.text.now i a.to)) all in
    (sym (l.invariant.0 ∙ rest ∙ no_more a.text.now a.to l.number), rw all at l.invariant.1)
