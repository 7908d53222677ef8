-- `number_in` meets its contract: some digits, and what they are worth. Assumes nothing.
use native.Mathlib.Omega.{arith}
use borrow.Author.Tests.{le-ltb, lt-ltb}
use lib.ListN.{length}
use Rattle.line.specs.Read.{number_in}
use Rattle.line.proofs.number_in.Goals as goal

pub returns-then-s-eq0 : goal.returns-then-s-eq0
unfolding number_in
returns-then-s-eq0 c = rw (le-ltb 0 (length c.args.s.now) (omega arith))

pub returns-then-are_digits : goal.returns-then-are_digits
unfolding number_in
returns-then-are_digits c =
    let s = c.args.s.now in
    rw (lt-ltb 0 (length s) (omega arith), ← c.are_digits.ensures, c.if-are_digits.true) c.worth.ensures

pub returns : goal.returns
unfolding number_in
returns c =
    let s = c.args.s.now in
    rw (lt-ltb 0 (length s) (omega arith), ← c.are_digits.ensures, c.if-are_digits.false)
