-- Which bytes of a text are kept: up to the last that is no zero, or the first zero, and that the rest are zeros. Assumes nothing.
use Prim.Native.Nat.{ℕ, zero, suc, ◌+◌, ◌-◌, ◌<◌, ◌≤◌}
use mathlib.Core.Path.{◌≡◌, refl, sym, ap, ◌∙◌}
use mathlib.Core.Logic.{◌≢◌}
use mathlib.Core.List.{List, [], ◌∷◌, ◌++◌}
use native.Mathlib.Decide.{dec_lt}
use native.Mathlib.Omega.{arith}
use borrow.Author.Tests.{lt-ltb, le-ltb, ne_eqb}
use lib.ListN.{length, length-append, length-take, take, get_or, replicate}
use lib.Seq.{take-append_seam}
use Rattle.std.specs.Prelude.{nat_eq}
use Rattle.std.specs.List.{position, position_or_len}
use Rattle.std.specs.Option.{unwrap_or}
use Rattle.texts.specs.Kept.{keep, kept, up_to_zero}

-- ---- trailing zeros

-- a zero more at the end is dropped
end_zero : (s : List ℕ) → kept (s ++ 0 ∷ []) ≡ kept s
end_zero [] = refl
end_zero (b ∷ s) = ap (keep b) (end_zero s)

-- zeros alone are all dropped
pub all_zeros : (s : List ℕ) → ((k : ℕ) → k < length s → get_or s k 0 ≡ 0) → kept s ≡ []
all_zeros [] h = refl
all_zeros (b ∷ s) h = rw (all_zeros s (λ k l. h (suc k) (omega arith)), h 0 (omega arith))

-- a byte in front of some that are kept is kept with them
in_front : (b i : ℕ) (t : List ℕ) → i + 1 ≡ length t → suc i + 1 ≡ length (keep b t)
in_front b i [] h = absurd (omega arith)
in_front b i (c ∷ t) h = omega arith

-- the last byte that is no zero is the last that is kept
pub last_kept : (s : List ℕ) (i : ℕ) → i < length s → get_or s i 0 ≢ 0 → ((k : ℕ) → i < k → k < length s → get_or s k 0 ≡ 0) → i + 1 ≡ length (kept s)
last_kept [] i l h z = absurd (omega arith)
last_kept (zero ∷ s) zero l h z = absurd (h refl)
last_kept (suc b ∷ s) zero l h z = rw (all_zeros s (λ k l. z (suc k) (omega arith) (omega arith)))
last_kept (b ∷ s) (suc i) l h z = in_front b i (kept s) (last_kept s i (omega arith) h (λ k j l. z (suc k) (omega arith) (omega arith)))

-- A TEXT is its kept bytes and zeros behind them
pub zeros_behind : (s : List ℕ) → s ≡ kept s ++ replicate (length s - length (kept s)) 0
zeros_behind [] = refl
zeros_behind (b ∷ s) = go b (kept s) (zeros_behind s)
  where
    with_front : (b n m : ℕ) (t : List ℕ) → s ≡ t ++ replicate n 0 → n ≡ m → b ∷ s ≡ b ∷ (t ++ replicate m 0)
    with_front b n m t e up = ap (λ (l : List ℕ). b ∷ l) (e ∙ ap (λ (k : ℕ). t ++ replicate k 0) up)

    go : (b : ℕ) (t : List ℕ) → s ≡ t ++ replicate (length s - length t) 0 → b ∷ s ≡ keep b t ++ replicate (suc (length s) - length (keep b t)) 0
    go zero [] e =
        let up : suc (length s) - 0 ≡ suc (length s) = omega arith in
        with_front 0 (length s - 0) (length s) [] e (omega arith) ∙ ap (λ (k : ℕ). replicate k 0) (sym up)
    go (suc b) [] e = with_front (suc b) (length s - 0) (suc (length s) - 1) [] e (omega arith)
    go b (c ∷ t) e = with_front b (length s - suc (length t)) (suc (length s) - suc (suc (length t))) (c ∷ t) e (omega arith)

-- and the last of them is no zero
kept_again : (s : List ℕ) → kept (kept s) ≡ kept s
kept_again [] = refl
kept_again (b ∷ s) = go b (kept s) (kept_again s)
  where
    go : (b : ℕ) (t : List ℕ) → kept t ≡ t → kept (keep b t) ≡ keep b t
    go zero [] e = refl
    go (suc b) [] e = refl
    go b (c ∷ t) e = ap (keep b) e

pub kept_length : (s : List ℕ) → length (kept s) ≤ length s
kept_length s = omega (arith, ap length (zeros_behind s), length-append (kept s) (replicate (length s - length (kept s)) 0))

pub no_zero_last : (s t : List ℕ) → kept s ≡ t ++ 0 ∷ [] → ⊥
no_zero_last s t h =
    let same : kept s ≡ kept t = sym (kept_again s) ∙ ap kept h ∙ end_zero t in
    omega (arith, ap length h, length-append t (0 ∷ []), ap length same, kept_length t)

-- they are a front of the text
pub kept_front : (s : List ℕ) → take (length (kept s)) s ≡ kept s
kept_front s = ap (take (length (kept s))) (zeros_behind s) ∙ take-append_seam (kept s) (replicate (length s - length (kept s)) 0)

-- ---- the first zero
-- what is kept is a front of the text
pub up_to_zero_front : (s : List ℕ) → take (length (up_to_zero s)) s ≡ up_to_zero s
up_to_zero_front [] = refl
up_to_zero_front (zero ∷ s) = refl
up_to_zero_front (suc b ∷ s) = ap (λ (t : List ℕ). suc b ∷ t) (up_to_zero_front s)

pub up_to_zero_length : (s : List ℕ) → length (up_to_zero s) ≤ length s
up_to_zero_length s = omega (arith, ap length (up_to_zero_front s), length-take (length (up_to_zero s)) s)

-- as many bytes as stand in front of the first zero, or all
pub first_zero : (s : List ℕ) → unwrap_or (position (λ b. nat_eq b 0) s) (length s) ≡ length (up_to_zero s)
first_zero s = go (dec_lt (position_or_len (λ b. nat_eq b 0) s) (length s))
  where
    passed : (s : List ℕ) → position_or_len (λ b. nat_eq b 0) s ≡ length (up_to_zero s)
    passed [] = refl
    passed (zero ∷ s) = refl
    passed (suc b ∷ s) = rw (ne_eqb (suc b) 0 (omega arith)) (omega (arith, passed s))

    go : Dec (position_or_len (λ b. nat_eq b 0) s < length s) → unwrap_or (position (λ b. nat_eq b 0) s) (length s) ≡ length (up_to_zero s)
    go (yes h) = rw (lt-ltb _ _ h) (passed s)
    go (no h) = rw (le-ltb (position_or_len (λ b. nat_eq b 0) s) (length s) (omega arith)) (omega (arith, passed s, up_to_zero_length s))
