-- Digits read from the front: whether they are digits, what they are worth, and the bytes that pairs of them are. Assumes nothing.
use Prim.Native.Nat.{ℕ, zero, suc, ◌+◌, ◌*◌, ◌^◌, ◌≤◌, ◌<◌}
use mathlib.Core.Path.{◌≡◌, refl, sym, ap, ◌∙◌}
use mathlib.Core.Bool.{Bool, true, false, false≢true, ◌&&◌}
use mathlib.Core.List.{List, [], ◌∷◌}
use native.Mathlib.Nat.{mul-one, mul-le-mul_left, pow-zero, one-le-pow, add-zero, not-suc-le-zero}
use native.Mathlib.Omega.{arith}
use borrow.Author.Tests.{lt-ltb, le-ltb, ltb-true, ltb-false}
use lib.Dec.{eqb, ltb}
use lib.ListN.{length, get_or, drop, drop_of_length-le}
use lib.Seq.{drop-cons}
use Rattle.foundation.specs.Digits.{digits}
use Rattle.foundation.specs.Pieces.{before, count_one}
use Rattle.foundation.specs.Digits.{worth_of, are_digits, worth}
use Rattle.foundation.proofs.Digits.{digit_read}
use Rattle.pieces.proofs.Splitting.{before_length}
use Rattle.std.specs.Prelude.{Option, Some, None, cond, not, ◌==◌}
use Rattle.std.specs.Option.{unwrap_or}
use Rattle.std.specs.List.{position_or_len, list_all}
use Rattle.line.specs.Read.{worth_in64, bytes_in}

one_before : (n : ℕ) → 1 + n ≡ suc n
one_before n = omega arith

-- as many digits as stand before a character
before_is : (c : ℕ) (s : List ℕ) → position_or_len (λ x. x == c) s ≡ before c s
before_is c [] = refl
before_is c (x ∷ s) = by (eqb x c) (before_is c s)
  where
    by : (t : Bool) → position_or_len (λ x. x == c) s ≡ before c s → cond (not t) (1 + position_or_len (λ x. x == c) s) 0 ≡ count_one t (before c s)
    by true ih = refl
    by false ih = ap (λ n. 1 + n) ih ∙ one_before (before c s)

-- a place where there is one, or else how many places there are
place_or : (n p : ℕ) (at : Option ℕ) (r : ℕ) → p ≤ n → at ≡ cond (ltb p n) (Some p) None → r ≡ unwrap_or at n → r ≡ p
place_or n p at r h e f = by (ltb p n) refl e
  where
    by : (t : Bool) → ltb p n ≡ t → at ≡ cond t (Some p) None → r ≡ p
    by true l a = f ∙ ap (λ (o : Option ℕ). unwrap_or o n) a
    by false l a = let all : n ≡ p = omega (arith, ltb-false p n l) in f ∙ ap (λ (o : Option ℕ). unwrap_or o n) a ∙ all

-- where a digit stands among them, or 16
pub worth_found : (c : ℕ) (at : Option ℕ) (r : ℕ)
    → at ≡ cond (ltb (position_or_len (λ x. x == c) digits) (length digits)) (Some (position_or_len (λ x. x == c) digits)) None
    → r ≡ unwrap_or at 16 → (r ≡ worth_of c) × (r ≤ 16)
unfolding worth_of
worth_found c at r e f =
    let few : before c digits ≤ 16 = before_length c digits in
    let is : r ≡ before c digits = place_or 16 (before c digits) at r few (rw (before_is c digits) at e) f in
    (is, rw is few)

-- each character a digit
pub each_digit : (base : ℕ) (s : List ℕ) → list_all (λ x. ltb (worth_of x) base) s ≡ are_digits base s
each_digit base [] = refl
each_digit base (c ∷ s) = ap (λ (b : Bool). ltb (worth_of c) base && b) (each_digit base s)

module _ (base : ℕ) (s : List ℕ) (i : ℕ) where
  pub worth_end : (value : ℕ) → length s ≤ i → value * base ^ length (drop i s) + worth base (drop i s) ≡ value
  worth_end value h = rw (drop_of_length-le s h, pow-zero, mul-one, add-zero)

  -- what was read, with the digit that comes next, and what is left
  pub worth_more : (value : ℕ) → i < length s
      → value * base ^ length (drop i s) + worth base (drop i s)
      ≡ (value * base + worth_of (get_or s i 0)) * base ^ length (drop (suc i) s) + worth base (drop (suc i) s)
  worth_more value h = rw (drop-cons s i 0 h) (digit_read base value (get_or s i 0) (drop (suc i) s))

-- more digits make a number no smaller
pub no_smaller : (n base k w : ℕ) → 0 < base → n ≤ n * base ^ k + w
no_smaller n base k w h =
    let grows : n * 1 ≤ n * base ^ k = mul-le-mul_left n (one-le-pow k base h) in
    omega (arith, grows, mul-one n)

module _ (base : ℕ) (s : List ℕ) where
  pub fits_64 : (value : ℕ) → worth base s ≡ value → value < 2 ^ 64 → Some value ≡ worth_in64 base s
  unfolding worth_in64
  fits_64 value e h = rw (e, lt-ltb value (2 ^ 64) h)

  pub over_64 : 2 ^ 64 ≤ worth base s → None ≡ worth_in64 base s
  unfolding worth_in64
  over_64 h = rw (le-ltb (worth base s) (2 ^ 64) h)

-- a digit with which 64 bits no longer hold what was read
pub over_with : (base : ℕ) (s : List ℕ) (i value : ℕ) → 1 < base → i < length s → value * base ^ length (drop i s) + worth base (drop i s) ≡ worth base s
    → 2 ^ 64 ≤ value * base + worth_of (get_or s i 0) → None ≡ worth_in64 base s
over_with base s i value b h read over =
    let rest = drop (suc i) s in
    let n = value * base + worth_of (get_or s i 0) in
    let whole : n * base ^ length rest + worth base rest ≡ worth base s = sym (worth_more base s i value h) ∙ read in
    over_64 base s (omega (arith, whole, no_smaller n base (length rest) (worth base rest) (omega arith)))

and_left : (a b : Bool) → (a && b) ≡ true → a ≡ true
and_left true b h = refl
and_left false b h = h

and_right : (a b : Bool) → (a && b) ≡ true → b ≡ true
and_right true b h = h
and_right false b h = absurd (false≢true h)

pub digit_at : (base : ℕ) (s : List ℕ) (i : ℕ) → are_digits base s ≡ true → i < length s → worth_of (get_or s i 0) < base
digit_at base [] i h l = absurd (not-suc-le-zero l)
digit_at base (c ∷ s) zero h l = ltb-true (worth_of c) base (and_left (ltb (worth_of c) base) (are_digits base s) h)
digit_at base (c ∷ s) (suc i) h l = digit_at base s i (and_right (ltb (worth_of c) base) (are_digits base s) h) (omega arith)

pub length-bytes_in : (n : ℕ) (s : List ℕ) → length s ≡ 2 * n → length (bytes_in s) ≡ n
length-bytes_in zero [] h = refl
length-bytes_in (suc n) [] h = absurd (omega arith)
length-bytes_in zero (a ∷ []) h = refl
length-bytes_in (suc n) (a ∷ []) h = absurd (omega arith)
length-bytes_in zero (a ∷ b ∷ s) h = absurd (omega arith)
length-bytes_in (suc n) (a ∷ b ∷ s) h = ap suc (length-bytes_in n s (omega arith))

pub byte_at : (i : ℕ) (s : List ℕ) → 2 * i + 1 < length s → get_or (bytes_in s) i 0 ≡ worth_of (get_or s (2 * i) 0) * 16 + worth_of (get_or s (2 * i + 1) 0)
byte_at i [] h = absurd (not-suc-le-zero h)
byte_at i (a ∷ []) h = absurd (omega arith)
byte_at zero (a ∷ b ∷ s) h = refl
byte_at (suc i) (a ∷ b ∷ s) h =
    let even : 2 * suc i ≡ suc (suc (2 * i)) = omega arith in
    let odd : 2 * suc i + 1 ≡ suc (suc (2 * i + 1)) = omega arith in
    rw (odd, even) (byte_at i s (omega arith))
