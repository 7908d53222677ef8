-- `room_of` meets its contract: the text stands past the end, is cut short by it, or is whole. Assumes nothing.
use Prim.Native.Nat.{ℕ, ◌*◌, ◌≤◌}
use mathlib.Core.Path.{ap}
use native.Mathlib.Nat.{mul-le-mul}
use native.Mathlib.Omega.{arith}
use Rattle.text_values.proofs.SeveralTexts.{room_none, room_rest, room_whole}
use Rattle.text_values.proofs.room_of.Goals as goal

pub overflow_mul-start : goal.overflow_mul-start
overflow_mul-start c =
    let row : c.args.row ≤ 4294967296 = omega arith in
    let size : c.wide-size.result ≤ 256 = omega arith in
    let most : c.args.row * c.wide-size.result ≤ 4294967296 * 256 = mul-le-mul row size in
    omega arith

pub returns-then-payload-start : goal.returns-then-payload-start
returns-then-payload-start c =
    let a = c.args in
    room_none a.klv a.payload.now a.row (c.args.row * c.wide-size.result) c.wide-size.result (ap (λ (n : ℕ). c.args.row * n) c.wide-size.ensures.0) c.wide-size.ensures.0 c.if-payload-start.true

pub returns-then-payload-start-2 : goal.returns-then-payload-start-2
returns-then-payload-start-2 c =
    let a = c.args in
    room_rest a.klv a.payload.now a.row (c.args.row * c.wide-size.result) c.wide-size.result (ap (λ (n : ℕ). c.args.row * n) c.wide-size.ensures.0) c.wide-size.ensures.0 c.if-payload-start-2.true

pub returns : goal.returns
returns c =
    let a = c.args in
    room_whole a.klv a.payload.now a.row (c.args.row * c.wide-size.result) c.wide-size.result (ap (λ (n : ℕ). c.args.row * n) c.wide-size.ensures.0) c.wide-size.ensures.0
