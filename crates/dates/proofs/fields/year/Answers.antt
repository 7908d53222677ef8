-- `year` meets its contract, by the laws of a field with and without `-`. Assumes nothing.
use mathlib.Core.Path.{sym}
use native.Mathlib.Omega.{arith}
use lib.Dec.{lit<}
use Rattle.dates.proofs.Signs.{minus, no_minus}
use Rattle.dates.proofs.fields.year.Goals as goal

pub returns-in_err-n : goal.returns-in_err-n
returns-in_err-n c =
    let text = c.args.text.now in
    let is = minus text 0 2 (lit< tt) (omega arith) _ c.if-text-eq45.true c.in_err-n.ensures.0 in
    rw c.from_residual.ensures (sym is, tt)

pub returns-then-text-eq45 : goal.returns-then-text-eq45
returns-then-text-eq45 c =
    let text = c.args.text.now in
    let is = minus text 0 2 (lit< tt) (omega arith) _ c.if-text-eq45.true c.in_ok-n.ensures.0 in
    (sym is, (omega (arith, c.in_ok-n.ensures.1), omega arith))

pub returns-in_err-n-2 : goal.returns-in_err-n-2
returns-in_err-n-2 c =
    let text = c.args.text.now in
    let is = no_minus text 0 2 (lit< tt) (omega arith) _ c.if-text-eq45.false c.in_err-n-2.ensures.0 in
    rw c.from_residual-in_err-n-2.ensures (sym is, tt)

pub returns : goal.returns
returns c =
    let text = c.args.text.now in
    let is = no_minus text 0 2 (lit< tt) (omega arith) _ c.if-text-eq45.false c.in_ok-n-2.ensures.0 in
    (sym is, (omega arith, omega (arith, c.in_ok-n-2.ensures.1)))
