-- A number's decimal: one digit below ten, else one digit more than its tenth; and it is the number's last digits. Assumes nothing.
use Prim.Native.Nat.{ℕ, zero, suc, ◌+◌, ◌/◌, ◌%◌, ◌≤◌, ◌<◌}
use mathlib.Core.Path.{◌≡◌, refl, sym, ap, ◌∙◌}
use mathlib.Core.Bool.{Bool, true, false}
use mathlib.Core.List.{List, [], ◌∷◌, ◌++◌}
use native.Mathlib.Nat.{mod-eq_of_lt, not-suc-le-zero}
use native.Mathlib.Numerals.{add-one}
use native.Mathlib.Omega.{arith}
use borrow.Author.Tests.{ltb-true, ltb-false, lt-ltb, le-ltb}
use lib.Dec.{ltb}
use lib.ListN.{length, get_or, length-append}
use Rattle.foundation.specs.Fuel.{Falls, fix_eq}
use Rattle.foundation.specs.Digits.{digits}
use Rattle.numerals.specs.Numerals.{last_digits, tenth_first, decimal_step, decimal}

falls : Falls (λ k. k) [] decimal_step
falls f g n h = by (ltb n 10) refl
  where
    by : (t : Bool) → ltb n 10 ≡ t → tenth_first t f n ≡ tenth_first t g n
    by true e = refl
    by false e = ap (λ (s : List ℕ). s ++ get_or digits (n % 10) 0 ∷ []) (h (n / 10) (omega (arith, ltb-false n 10 e)))

equation : (n : ℕ) → decimal n ≡ tenth_first (ltb n 10) decimal n
unfolding decimal
equation n = fix_eq (λ k. k) [] decimal_step falls n

pub one_digit : (n : ℕ) → n < 10 → decimal n ≡ get_or digits n 0 ∷ []
one_digit n h = equation n ∙ rw (lt-ltb n 10 h)

pub more_digits : (n : ℕ) → 10 ≤ n → decimal n ≡ decimal (n / 10) ++ get_or digits (n % 10) 0 ∷ []
more_digits n h = equation n ∙ rw (le-ltb n 10 h)

pub length_one : (n : ℕ) → n < 10 → length (decimal n) ≡ 1
length_one n h = rw (one_digit n h)

pub length_more : (n : ℕ) → 10 ≤ n → length (decimal n) ≡ length (decimal (n / 10)) + 1
length_more n h = rw (more_digits n h) (length-append (decimal (n / 10)) (get_or digits (n % 10) 0 ∷ []))

last_below : (bound n : ℕ) → n < bound → last_digits 10 (length (decimal n)) n ≡ decimal n
last_below zero n h = absurd (not-suc-le-zero h)
last_below (suc bound) n h = by (ltb n 10) refl (last_below bound (n / 10))
  where
    by : (t : Bool) → ltb n 10 ≡ t → (n / 10 < bound → last_digits 10 (length (decimal (n / 10))) (n / 10) ≡ decimal (n / 10))
        → last_digits 10 (length (decimal n)) n ≡ decimal n
    by true e tenth =
        let l : n < 10 = ltb-true n 10 e in
        rw (one_digit n l, mod-eq_of_lt l)
    by false e tenth =
        let l : 10 ≤ n = ltb-false n 10 e in
        rw (length_more n l, add-one, tenth (omega arith)) (sym (more_digits n l))

-- a number's decimal is as many of its last digits as it has
pub last_decimal : (n : ℕ) → last_digits 10 (length (decimal n)) n ≡ decimal n
last_decimal n = last_below (suc n) n (omega arith)
