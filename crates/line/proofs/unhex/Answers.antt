-- `unhex` meets its contract: pairs of hex digits that have room are laid, and nothing else is. Assumes nothing.
use Prim.Native.Nat.{◌/◌}
use mathlib.Core.Path.{sym, ◌∙◌}
use native.Mathlib.Omega.{arith}
use lib.ListN.{length}
use Rattle.line.proofs.Decoding.{not_pairs, not_digits, no_room, decodes}
use Rattle.line.proofs.unhex.Goals as goal

pub returns-then-s-eq1 : goal.returns-then-s-eq1
returns-then-s-eq1 c =
    let a = c.args in
    not_pairs a.s.now a.out.now c.if-s-eq1.true

pub returns-then-out-count : goal.returns-then-out-count
returns-then-out-count c =
    let a = c.args in
    let count = length a.s.now / 2 in
    let digits = sym c.are_digits.ensures ∙ c.if-are_digits.true in
    no_room a.s.now a.out.now count (omega arith) digits (omega arith)

pub decode-requires : goal.decode-requires
decode-requires c = record { s_value = sym c.are_digits.ensures ∙ c.if-are_digits.true; s_len = omega arith; count_in_bounds = omega arith }

pub returns-then-are_digits : goal.returns-then-are_digits
returns-then-are_digits c =
    let a = c.args in
    let count = length a.s.now / 2 in
    let digits = sym c.are_digits.ensures ∙ c.if-are_digits.true in
    rw c.decode.ensures (decodes a.s.now a.out.now count (omega arith) digits (omega arith))

pub returns : goal.returns
returns c =
    let a = c.args in
    let count = length a.s.now / 2 in
    not_digits a.s.now a.out.now count (omega arith) (sym c.are_digits.ensures ∙ c.if-are_digits.false)
