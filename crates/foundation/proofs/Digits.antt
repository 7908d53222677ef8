-- Decimal digits by their codes, and digits read from the front. Assumes nothing.
use Prim.Native.Nat.{ℕ, zero, suc, ◌+◌, ◌*◌, ◌-◌, ◌^◌, ◌≤◌, ◌<◌}
use Prim.Native.Char.{code}
use mathlib.Core.Path.{◌≡◌, refl, sym, ap, subst, ◌∙◌}
use mathlib.Core.List.{List, [], ◌∷◌}
use native.Mathlib.Nat.{add_assoc, add-mul, mul_assoc, pow-succ'}
use native.Mathlib.Omega.{arith}
use borrow.Author.Tests.{ne_eqb}
use lib.ListN.{length}
use Rattle.foundation.specs.Text.{characters}
use Rattle.foundation.specs.Pieces.{pieces_of}
use Rattle.foundation.specs.Digits.{worth_of, worth}

-- a character that is no decimal digit stands behind all of them
no_decimal : (c : ℕ) → (48 ≤ c → c ≤ 57 → ⊥) → 10 ≤ worth_of c
unfolding worth_of
no_decimal c h =
    let other : (k : ℕ) → 48 ≤ k → k ≤ 57 → k ≡ c → ⊥ = λ k l m e. h (subst (λ (n : ℕ). 48 ≤ n) e l) (subst (λ (n : ℕ). n ≤ 57) e m) in
    rw (
      ne_eqb 48 c (other 48 (omega arith) (omega arith)),
      ne_eqb 49 c (other 49 (omega arith) (omega arith)),
      ne_eqb 50 c (other 50 (omega arith) (omega arith)),
      ne_eqb 51 c (other 51 (omega arith) (omega arith)),
      ne_eqb 52 c (other 52 (omega arith) (omega arith)),
      ne_eqb 53 c (other 53 (omega arith) (omega arith)),
      ne_eqb 54 c (other 54 (omega arith) (omega arith)),
      ne_eqb 55 c (other 55 (omega arith) (omega arith)),
      ne_eqb 56 c (other 56 (omega arith) (omega arith)),
      ne_eqb 57 c (other 57 (omega arith) (omega arith)),
    ) (omega arith)

pub below_digits : (c : ℕ) → c < 48 → 10 ≤ worth_of c
below_digits c h = no_decimal c (λ l m. omega arith)

pub above_digits : (c : ℕ) → 57 < c → 10 ≤ worth_of c
above_digits c h = no_decimal c (λ l m. omega arith)

-- a decimal digit is worth what its code lies behind that of 0
worth_from : (k : ℕ) → k < 10 → worth_of (48 + k) ≡ k
unfolding worth_of
worth_from zero h = refl
worth_from (suc zero) h = refl
worth_from (suc (suc zero)) h = refl
worth_from (suc (suc (suc zero))) h = refl
worth_from (suc (suc (suc (suc zero)))) h = refl
worth_from (suc (suc (suc (suc (suc zero))))) h = refl
worth_from (suc (suc (suc (suc (suc (suc zero)))))) h = refl
worth_from (suc (suc (suc (suc (suc (suc (suc zero))))))) h = refl
worth_from (suc (suc (suc (suc (suc (suc (suc (suc zero)))))))) h = refl
worth_from (suc (suc (suc (suc (suc (suc (suc (suc (suc zero))))))))) h = refl
worth_from (suc (suc (suc (suc (suc (suc (suc (suc (suc (suc k)))))))))) h = absurd (omega arith)

pub decimal_digit : (c : ℕ) → 48 ≤ c → c ≤ 57 → worth_of c ≡ c - 48
decimal_digit c l h = let same : 48 + (c - 48) ≡ c = omega arith in subst (λ (n : ℕ). worth_of n ≡ c - 48) same (worth_from (c - 48) (omega arith))

-- what was read, with the digit that comes next, and what is left
pub digit_read : (base n c : ℕ) (s : List ℕ) → n * base ^ suc (length s) + worth base (c ∷ s) ≡ (n * base + worth_of c) * base ^ length s + worth base s
digit_read base n c s =
    let d : ℕ = worth_of c in
    let p : ℕ = base ^ length s in
    let w : ℕ = worth base s in
    ap (λ (x : ℕ). n * x + (d * p + w)) (pow-succ' base (length s))
    ∙ ap (λ (x : ℕ). x + (d * p + w)) (sym (mul_assoc n base p))
    ∙ sym (add_assoc (n * base * p) (d * p) w)
    ∙ ap (λ (x : ℕ). x + w) (sym (add-mul (n * base) d p))

-- texts whose numbers and pieces are computed
pub read_as_lem : (worth 10 (characters "2048") ≡ 2048) × (worth 16 (characters "00ff") ≡ 255)
unfolding worth_of
read_as_lem = (refl, refl)

pub pieces_of_lem : pieces_of (code " ") (characters "GYRO  SCAL ") ≡ characters "GYRO" ∷ [] ∷ characters "SCAL" ∷ [] ∷ []
pieces_of_lem = refl
