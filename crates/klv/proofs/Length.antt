-- The bounds of a payload's length: a size byte times a 16-bit repeat, and its padding. Assumes nothing.
use Prim.Native.Nat.{ℕ, ◌+◌, ◌*◌, ◌%◌, ◌<◌, ◌≤◌}
use mathlib.Core.Path.{◌≡◌}
use native.Mathlib.Nat.{mul-le-mul}
use native.Mathlib.Omega.{arith}
use Rattle.klv.specs.Item.{aligned}

pub product_bound : (size repeat : ℕ) → size < 256 → repeat < 65536 → size * repeat < 16777216
product_bound size repeat h k =
    let hs : size ≤ 255 = omega arith in
    let kr : repeat ≤ 65535 = omega arith in
    let most : size * repeat ≤ 255 * 65535 = mul-le-mul hs kr in
    omega arith

-- the padded length is the least multiple of 4 that holds the payload
pub record Aligned (n : ℕ) : Type 0 where
  pub multiple : aligned n % 4 ≡ 0
  pub holds : n ≤ aligned n
  pub least : aligned n < n + 4

pub is_aligned : (n : ℕ) → Aligned n
is_aligned n = record { multiple = omega arith; holds = omega arith; least = omega arith }
