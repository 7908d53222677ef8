-- `with_digit` meets its contract: the test by division is that 64 bits hold the number. Assumes nothing.
use Prim.Native.Nat.{ℕ, ◌+◌, ◌*◌, ◌-◌, ◌/◌, ◌^◌, ◌≤◌, ◌<◌}
use mathlib.Core.Path.{◌≡◌}
use native.Mathlib.Omega.{arith}
use borrow.Author.Tests.{lt-ltb, le-ltb}
use Rattle.custom_type.specs.declared.count.Count.TheVariants.{Number, Unreadable}
use Rattle.foundation.specs.Digits.{worth_of}
use Rattle.foundation.proofs.Digits.{below_digits, above_digits, decimal_digit}
use Rattle.custom_type.specs.Held.{with_digit}
use Rattle.custom_type.proofs.count.with_digit.Goals as goal

low : (n c : ℕ) → c < 48 → Unreadable ≡ with_digit n c
low n c h = rw (le-ltb (worth_of c) 10 (below_digits c h))

high : (n c : ℕ) → 57 < c → Unreadable ≡ with_digit n c
high n c h = rw (le-ltb (worth_of c) 10 (above_digits c h))

number : (n c : ℕ) → 48 ≤ c → c ≤ 57 → n ≤ (18446744073709551615 - (c - 48)) / 10
    → Number (n * 10 + (c - 48)) ≡ with_digit n c
number n c l h f =
    let held : n * 10 + (c - 48) < 2 ^ 64 = omega arith in
    rw (decimal_digit c l h, lt-ltb (c - 48) 10 (omega arith), lt-ltb (n * 10 + (c - 48)) (2 ^ 64) held)

over : (n c : ℕ) → 48 ≤ c → c ≤ 57 → (18446744073709551615 - (c - 48)) / 10 < n → Unreadable ≡ with_digit n c
over n c l h f =
    let more : 2 ^ 64 ≤ n * 10 + (c - 48) = omega arith in
    rw (decimal_digit c l h, lt-ltb (c - 48) 10 (omega arith), le-ltb (n * 10 + (c - 48)) (2 ^ 64) more)

pub returns-then-number-digit : goal.returns-then-number-digit
returns-then-number-digit c = number c.args.number c.args.c c.if-c-ge48.true c.if-c-le57.true c.if-number-digit.true

pub returns-else-number-digit : goal.returns-else-number-digit
returns-else-number-digit c = over c.args.number c.args.c c.if-c-ge48.true c.if-c-le57.true c.if-number-digit.false

pub returns-else-c-le57 : goal.returns-else-c-le57
returns-else-c-le57 c = high c.args.number c.args.c c.if-c-le57.false

pub returns-else-c-ge48 : goal.returns-else-c-ge48
returns-else-c-ge48 c = low c.args.number c.args.c c.if-c-ge48.false
