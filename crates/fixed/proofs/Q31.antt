-- The laws of Q, for all parts: the f64 is within 2 ^ -22 of the exact form; and case 8. Assumes nothing.
use Prim.Native.Nat.{◌+◌, ◌^◌, ◌≤◌}
use mathlib.Core.Path.{refl}
use native.Mathlib.Omega.{arith}
use lib.Dec.{lit<, lit≤}
use lib.Ieee.{binary64, add, div, of_int}
use Rattle.fixed.specs.Fixed.{divisor31_32, exact_form, sum_in, q31_32, q31_32_exact}
use Rattle.fixed.specs.Laws.{WithinTwoToMinus22, Case8}
use Rattle.fixed.proofs.AnyDivisor.{reading_within}
use Rattle.fixed.proofs.Near.{looser}
use Rattle.fixed.proofs.Range.{bounded}

pub within_two_to_minus_22 : WithinTwoToMinus22
unfolding q31_32 q31_32_exact
within_two_to_minus_22 high low h =
    let l : low ≤ divisor31_32 = omega (arith, h.unsigned) in
    looser (sum_in binary64 divisor31_32 high low) (exact_form divisor31_32 high low) (2 ^ 31 + 1) (2 ^ 54) _ _ (lit< tt) (lit≤ tt)
    (reading_within binary64 divisor31_32 high low 31 (lit< tt) (lit≤ tt) l (bounded (2 ^ 31) high (lit< tt) (lit< tt) h.signed) (lit≤ tt))

-- by computing
pub case_8 : Case8
unfolding q31_32 q31_32_exact add div of_int
case_8 = (refl, refl)
