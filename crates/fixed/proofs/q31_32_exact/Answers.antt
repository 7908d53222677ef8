-- `fixed::q31_32_exact` meets its contract: no step leaves its 64 bits, so the numerator is the definition's. Assumes nothing.
use borrow.Author.Rules.{rules}
use Prim.Native.Nat.{ℕ, ◌+◌, ◌*◌, ◌<◌, ◌≤◌, ◌^◌}
use mathlib.Core.Path.{◌≡◌}
use native.Mathlib.Nat.{mul-le-mul_right}
use native.Mathlib.Omega.{arith}
use lib.IntN.{ℤ, pos, ◌+ℤ◌, ◌*ℤ◌, +ℤ_idr}
use lib.Dec.{lit<, lit≤}
use mir.Syntax.{Width, w32, w64}
use mir.Val.{SFits, to_z, of_z}
use mir.ValLaws.{to_z-of_z, to_z_pos}
use Rattle.fixed.specs.Fixed.{q31_32_exact, divisor31_32}
use Rattle.fixed.proofs.Difference.{over, under, sides, in_range, two_parts}
use Rattle.fixed.proofs.q31_32_exact.Goals as goal

-- ---- the numbers fit, for every divisor up to 2 ^ 32

wider : (high : ℤ) → SFits w32 high → SFits w64 high
wider high h = record { sfits = omega (arith, h.sfits) }

module _ (d : ℕ) (D : d ≤ 2 ^ 32) (high : ℤ) (h : SFits w32 high) where
  sum_fits : (low : ℕ) → low < 2 ^ 32 → SFits w64 (high *ℤ pos d +ℤ pos low)
  sum_fits low l =
      let k = sides high (2 ^ 31) h.sfits in
      let most : over high * d + low < 2 ^ 63 = omega (arith, mul-le-mul_right d k.0) in
      let least : under high * d ≤ 2 ^ 63 = omega (arith, mul-le-mul_right d k.1) in
      record { sfits = rw (two_parts high d low) (in_range _ _ _ most least) }

  product_fits : SFits w64 (high *ℤ pos d)
  product_fits = rw (+ℤ_idr (high *ℤ pos d)) at (sum_fits 0 (lit< tt))

-- ---- so the machine, which writes each number as bits and reads it back, has these numbers

abbrev back : Width → ℤ → ℤ
back w z = to_z w (of_z w z)

module _ (d : ℕ) (D : d ≤ 2 ^ 32) (high : ℤ) (h : SFits w32 high) where
  high_is : back w64 (back w32 high) ≡ high
  high_is = rw (to_z-of_z w32 high h) (to_z-of_z w64 high (wider high h))

  product_step : SFits w64 (back w64 (back w32 high) *ℤ pos d)
  product_step = rw high_is (product_fits d D high h)

  product_is : back w64 (back w64 (back w32 high) *ℤ pos d) ≡ high *ℤ pos d
  product_is = rw high_is (to_z-of_z w64 (high *ℤ pos d) (product_fits d D high h))

  module _ (low : ℕ) (l : low < 2 ^ 32) where
    low_is : to_z w64 low ≡ pos low
    low_is = to_z_pos w64 low (omega arith)

    sum_step : SFits w64 (back w64 (back w64 (back w32 high) *ℤ pos d) +ℤ to_z w64 low)
    sum_step = rw (product_is, low_is) (sum_fits d D high h low l)

    sum_is : back w64 (back w64 (back w64 (back w32 high) *ℤ pos d) +ℤ to_z w64 low) ≡ high *ℤ pos d +ℤ pos low
    sum_is = rw (product_is, low_is) (to_z-of_z w64 (high *ℤ pos d +ℤ pos low) (sum_fits d D high h low l))

pub overflow_cast-result : goal.overflow_cast-result
overflow_cast-result c = rw (to_z-of_z w32 c.args.high c.ranges.high) (wider c.args.high c.ranges.high)

pub overflow_mul-result : goal.overflow_mul-result
overflow_mul-result c = product_step _ (lit≤ tt) c.args.high c.ranges.high

pub overflow_add-result : goal.overflow_add-result
overflow_add-result c = sum_step _ (lit≤ tt) c.args.high c.ranges.high c.args.low (search rules)

pub returns : goal.returns
unfolding q31_32_exact
returns c = λ i. record { numerator = sum_is divisor31_32 (lit≤ tt) c.args.high c.ranges.high c.args.low (search rules) i; denominator = divisor31_32 }
