-- One character more behind what was collected: the count that is held is the count of all. Assumes nothing.
use Prim.Native.Nat.{ℕ, suc, ◌+◌, ◌*◌, ◌^◌, ◌≤◌}
use mathlib.Core.Path.{◌≡◌, refl, sym, ap, ◌∙◌}
use mathlib.Core.Bool.{Bool, true, false, cond, ◌&&◌, and-true, and-false, and_assoc}
use mathlib.Core.List.{List, [], ◌∷◌, ◌++◌}
use native.Mathlib.Nat.{pow-suc, mul_assoc}
use native.Mathlib.Numerals.{add-one}
use native.Mathlib.Omega.{arith}
use borrow.Author.Tests.{ltb-false, le-ltb}
use lib.Dec.{ltb, eqb}
use lib.ListN.{length, length-append}
use Rattle.custom_type.specs.declared.count.Count.{Count}
use Rattle.custom_type.specs.declared.count.Count.TheVariants.{Number, Unreadable}
use Rattle.foundation.specs.Digits.{worth_of, are_digits, worth}
use Rattle.custom_type.specs.Number.{readable, without_plus, number_in}
use Rattle.custom_type.specs.Held.{count_of, number_of, with_digit, next_count}

digits_more : (s : List ℕ) (c : ℕ) → are_digits 10 (s ++ c ∷ []) ≡ (are_digits 10 s && ltb (worth_of c) 10)
digits_more [] c = and-true (ltb (worth_of c) 10)
digits_more (a ∷ s) c = ap (λ (b : Bool). ltb (worth_of a) 10 && b) (digits_more s c) ∙ sym (and_assoc (ltb (worth_of a) 10) (are_digits 10 s) (ltb (worth_of c) 10))

-- the digits in front weigh ten times as much
worth_more : (s : List ℕ) (c : ℕ) → worth 10 (s ++ c ∷ []) ≡ worth 10 s * 10 + worth_of c
worth_more [] c = omega arith
worth_more (a ∷ s) c =
    let n : length (s ++ c ∷ []) ≡ suc (length s) = length-append s (c ∷ []) ∙ add-one (length s) in
    let m : worth_of a * 10 ^ suc (length s) ≡ worth_of a * 10 ^ length s * 10 = rw pow-suc (sym (mul_assoc (worth_of a) (10 ^ length s) 10)) in
    rw (n, m, worth_more s c) (omega arith)

-- the count of what stands behind a `+`, or at the front
digits_count : List ℕ → Count
digits_count s = cond (readable s) (Number (worth 10 s)) Unreadable

-- by whether those so far are digits, and whether 64 bits hold them
by_tests : (all held : Bool) (n c : ℕ) → ltb n (2 ^ 64) ≡ held
    → cond ((all && ltb (worth_of c) 10) && ltb (n * 10 + worth_of c) (2 ^ 64)) (Number (n * 10 + worth_of c)) Unreadable ≡ next_count (cond (all && held) (Number n) Unreadable) c
unfolding next_count
by_tests false held n c e = refl
by_tests true true n c e = refl
by_tests true false n c e =
    let over : 2 ^ 64 ≤ n = ltb-false n (2 ^ 64) e in
    let more : ltb (n * 10 + worth_of c) (2 ^ 64) ≡ false = le-ltb (n * 10 + worth_of c) (2 ^ 64) (omega arith) in
    rw (more, and-false (ltb (worth_of c) 10))

digit_more : (s : List ℕ) (c : ℕ) → digits_count (s ++ c ∷ []) ≡ next_count (digits_count s) c
unfolding digits_count readable
digit_more s c = rw (digits_more s c, worth_more s c) (by_tests (are_digits 10 s) (ltb (worth 10 s) (2 ^ 64)) (worth 10 s) c refl)

-- what was collected, the first character with it
count_is : (a : ℕ) (s : List ℕ) → count_of (a ∷ s) ≡ digits_count (without_plus (a ∷ s))
unfolding digits_count
count_is a s = refl

-- and its number
pub count_number : (s : List ℕ) → number_of (count_of s) ≡ number_in s
unfolding readable without_plus
count_number [] = refl
count_number (a ∷ s) = go (readable (without_plus (a ∷ s))) (worth 10 (without_plus (a ∷ s)))
  where
    go : (b : Bool) (n : ℕ) → number_of (cond b (Number n) Unreadable) ≡ cond b n 0
    go true n = refl
    go false n = refl

plus_more : (a : ℕ) (s : List ℕ) (c : ℕ) → without_plus (a ∷ (s ++ c ∷ [])) ≡ without_plus (a ∷ s) ++ c ∷ []
unfolding without_plus
plus_more a s c = go (eqb a 43)
  where
    go : (b : Bool) → cond b (s ++ c ∷ []) (a ∷ (s ++ c ∷ [])) ≡ cond b s (a ∷ s) ++ c ∷ []
    go true = refl
    go false = refl

first : (c : ℕ) → digits_count (without_plus (c ∷ [])) ≡ next_count (count_of []) c
unfolding without_plus digits_count readable next_count
first c = go (eqb c 43)
  where
    go : (b : Bool) → digits_count (cond b [] (c ∷ [])) ≡ cond b (Number 0) (with_digit 0 c)
    go true = refl
    go false = digit_more [] c

-- THE COUNT of a character more
pub count_more : (s : List ℕ) (c : ℕ) → count_of (s ++ c ∷ []) ≡ next_count (count_of s) c
count_more [] c = count_is c [] ∙ first c
count_more (a ∷ s) c =
    count_is a (s ++ c ∷ []) ∙ ap digits_count (plus_more a s c) ∙ digit_more (without_plus (a ∷ s)) c ∙ ap (λ (k : Count). next_count k c) (sym (count_is a s))
