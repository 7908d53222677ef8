-- WHOLE NUMBERS OF EVERY WIDTH, signed and unsigned: a number that the width holds, laid out as bytes and read again, is itself. One law over the width.
-- From the laws of big-endian numbers. Assumes nothing.
use Prim.Native.Nat.{ℕ, suc, ◌+◌, ◌-◌, ◌/◌, ◌^◌, ◌<◌}
use native.Mathlib.Nat.{pow-suc}
use mathlib.Core.Path.{◌≡◌, ap}
use native.Mathlib.Omega.{arith}
use borrow.Author.Tests.{lt-ltb, le-ltb}
use lib.IntN.{ℤ, pos, negsuc}
use lib.Signed.{mag}
use Rattle.foundation.specs.BigEndian.{big_endian, bytes_of}
use Rattle.foundation.proofs.BigEndian.{read_back}
use Rattle.elements.specs.Element.{signed_of}

-- what the first bit of a width weighs
abbrev pub half_of : ℕ → ℕ
half_of width = 256 ^ width / 2

-- two's complement: the number whose bytes stand for a signed number
abbrev pub pattern_of : ℕ → ℤ → ℕ
pattern_of width (pos n) = n
pattern_of width (negsuc n) = 256 ^ width - 1 - n

twice : (width : ℕ) → half_of (suc width) + half_of (suc width) ≡ 256 ^ suc width
twice width = rw pow-suc (omega arith)

pub unsigned_back : (width n : ℕ) → n < 256 ^ width → big_endian (bytes_of width n) ≡ n
unsigned_back = read_back

pub signed_back : (width : ℕ) (z : ℤ) → mag z < half_of (suc width) → signed_of (half_of (suc width)) (big_endian (bytes_of (suc width) (pattern_of (suc width) z))) ≡ z
signed_back width (pos n) h =
    let t = twice width in
    let back = read_back (suc width) n (omega arith) in
    rw (back, lt-ltb n (half_of (suc width)) h)
signed_back width (negsuc n) h =
    let t = twice width in
    let most : ℕ = 256 ^ suc width in
    let back = read_back (suc width) (256 ^ suc width - 1 - n) (omega arith) in
    let there : half_of (suc width) + half_of (suc width) - 1 - (256 ^ suc width - 1 - n) ≡ n = omega arith in
    rw (back, le-ltb (256 ^ suc width - 1 - n) (half_of (suc width)) (omega arith)) (ap negsuc there)
