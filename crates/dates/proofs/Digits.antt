-- The digits of a field, byte by byte, and how large their number is: one law for fields of any width. Assumes nothing.
use Prim.Native.Nat.{ℕ, suc, ◌+◌, ◌-◌, ◌*◌, ◌^◌, ◌<◌, ◌≤◌}
use mathlib.Core.Path.{◌≡◌, sym, ap, ◌∙◌}
use mathlib.Core.Bool.{true, cond}
use mathlib.Core.Logic.{◌⊎◌, inl, inr}
use mathlib.Core.List.{List, ◌∷◌}
use native.Mathlib.Nat.{pow-suc, pow-zero, pow-le-pow_right, mul-one, zero-mul, zero-add, add-zero}
use native.Mathlib.Numerals.{add-one}
use native.Mathlib.Omega.{arith}
use borrow.Author.Tests.{lt-ltb, le-ltb}
use lib.Arith.{digits_lt}
use lib.Dec.{ltb, lit<}
use lib.ListN.{length, get_or}
use lib.Seq.{slice, slice-cons, slice_empty}
use Rattle.std.specs.Prelude.{Option, Some, None}
use Rattle.foundation.specs.Digits.{worth_of, are_digits, worth}
use Rattle.foundation.proofs.Digits.{below_digits, above_digits, decimal_digit, digit_read}
use Rattle.dates.specs.Fields.{digits, field}

-- digits behind a number: each makes ten times what stands before it, and itself
unfoldable pub digits_after : ℕ → List ℕ → Option ℕ
digits_after n s = cond (are_digits 10 s) (Some (n * 10 ^ length s + worth 10 s)) None

digit_more : (n c : ℕ) (s : List ℕ) → 48 ≤ c → c ≤ 57 → digits_after n (c ∷ s) ≡ digits_after (n * 10 + (c - 48)) s
unfolding digits_after
digit_more n c s low high =
    let is : worth_of c ≡ c - 48 = decimal_digit c low high in
    let digit : ltb (worth_of c) 10 ≡ true = lt-ltb (worth_of c) 10 (omega (arith, is)) in
    rw digit
    (ap (λ (k : ℕ). cond (are_digits 10 s) (Some k) None) (digit_read 10 n c s ∙ ap (λ (d : ℕ). (n * 10 + d) * 10 ^ length s + worth 10 s) is))

module _ (text : List ℕ) (i to : ℕ) (some : i < to) (inside : to ≤ length text) where
  -- a field with a byte
  pub from_none : digits (field text i to) ≡ digits_after 0 (field text i to)
  unfolding digits_after
  from_none = rw (slice-cons i to text 0 some inside, zero-mul, zero-add)

  -- its first byte is a digit
  pub one_more : (n : ℕ) → 48 ≤ get_or text i 0 → get_or text i 0 ≤ 57 → digits_after n (field text i to) ≡ digits_after (n * 10 + (get_or text i 0 - 48)) (field text (i + 1) to)
  one_more n low high =
      let c : ℕ = get_or text i 0 in
      ap (digits_after n) (slice-cons i to text 0 some inside) ∙ digit_more n c (slice (suc i) to text) low high
      ∙ ap (λ (k : ℕ). digits_after (n * 10 + (c - 48)) (field text k to)) (sym (add-one i))

  -- its first byte is below or above the digits
  below : (n : ℕ) → get_or text i 0 < 48 → digits_after n (field text i to) ≡ None
  unfolding digits_after
  below n h = rw (slice-cons i to text 0 some inside, le-ltb (worth_of (get_or text i 0)) 10 (below_digits (get_or text i 0) h))

  above : (n : ℕ) → 48 ≤ get_or text i 0 → 57 < get_or text i 0 → digits_after n (field text i to) ≡ None
  unfolding digits_after
  above n low h = rw (slice-cons i to text 0 some inside, le-ltb (worth_of (get_or text i 0)) 10 (above_digits (get_or text i 0) h))

  -- so none is read where it is no digit
  pub no_digit : (n : ℕ) → (get_or text i 0 < 48) ⊎ (57 < get_or text i 0) → digits_after n (field text i to) ≡ None
  no_digit n (inl h) = below n h
  no_digit n (inr h) = above n (omega arith) h

pub no_more : (text : List ℕ) (to n : ℕ) → digits_after n (field text to to) ≡ Some n
unfolding digits_after
no_more text to n = rw (slice_empty to text, pow-zero, mul-one, add-zero)

-- with a digit more, k digits are k + 1, and 18 are held by 64 bits
pub ten_times : (k n d : ℕ) → n < 10 ^ k → d < 10 → n * 10 + d < 10 ^ (k + 1)
ten_times k n d h l = rw (add-one, pow-suc) (digits_lt h l)

pub ten_times_fits : (k n d : ℕ) → k < 18 → n < 10 ^ k → d < 10 → n * 10 + d < 2 ^ 64
ten_times_fits k n d few h l =
    let up : k + 1 ≤ 18 = omega arith in
    let most : 10 ^ (k + 1) ≤ 10 ^ 18 = pow-le-pow_right {n = 10} (lit< tt) up in
    omega (arith, ten_times k n d h l)
