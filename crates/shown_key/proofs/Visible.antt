-- Which bytes can be seen, as code finds it out: a byte by two tests, a text byte by byte; and how a key is shown then. Assumes nothing.
use native.Mathlib.Omega.{arith}
use Prim.Native.Nat.{ℕ, ◌/◌}
use mathlib.Core.Path.{◌≡◌, refl, sym, ap, ◌∙◌}
use mathlib.Core.Bool.{Bool, true, false, ◌&&◌, cond}
use mathlib.Core.List.{List, [], ◌∷◌, ◌++◌, append-nil}
use lib.ListN.{length, replicate}
use mir.Syntax.{w32}
use Rattle.std.specs.Int.{to_be_bytes}
use Rattle.std.specs.Char.{is_ascii_graphic}
use Rattle.std.specs.List.{list_all}
use Rattle.foundation.specs.BigEndian.{bytes_of}
use Rattle.foundation.specs.Text.{characters}
use Rattle.text.specs.Lay.{laid}
use Rattle.numerals.specs.Numerals.{last_digits}
use Rattle.numerals.proofs.Spelling.{length-last_digits}
use Rattle.shown_key.specs.Key.{visible, all_visible, shown_key}

-- the bytes of a key, as std has them
pub four_bytes : (k : ℕ) → to_be_bytes w32 k ≡ bytes_of 4 k
four_bytes k =
    let third : k / 65536 ≡ k / 256 / 256 = omega arith in
    let fourth : k / 16777216 ≡ k / 256 / 256 / 256 = omega arith in
    rw (fourth, third)

-- each of them graphic
pub all_seen : (s : List ℕ) → list_all is_ascii_graphic s ≡ all_visible s
all_seen [] = refl
all_seen (b ∷ s) = ap (λ (t : Bool). visible b && t) (all_seen s)

-- a key whose bytes can all be seen, and any other
module _ (k : ℕ) (bytes : List ℕ) (seen : Bool) (are : bytes ≡ bytes_of 4 k) (tells : seen ≡ all_visible bytes) where
  shown : (t : Bool) → seen ≡ t → shown_key k ≡ cond t (bytes_of 4 k) (characters "x" ++ last_digits 16 8 k)
  unfolding shown_key
  shown t e = ap (λ (b : Bool). cond b (bytes_of 4 k) (characters "x" ++ last_digits 16 8 k)) (ap all_visible (sym are) ∙ sym tells ∙ e)

  pub key_seen : seen ≡ true → shown_key k ≡ bytes
  key_seen e = shown true e ∙ sym are

  pub key_hidden : seen ≡ false → shown_key k ≡ characters "x" ++ last_digits 16 8 k
  key_hidden e = shown false e

-- eight digits behind an x
x_before : (digits : List ℕ) → length digits ≡ 8 → laid (replicate 9 120) 1 digits ≡ characters "x" ++ digits
unfolding laid
x_before digits e = rw (e, append-nil digits)

pub hex_laid : (k : ℕ) → laid (replicate 9 120) 1 (last_digits 16 8 k) ≡ characters "x" ++ last_digits 16 8 k
hex_laid k = x_before (last_digits 16 8 k) (length-last_digits 16 8 k)
