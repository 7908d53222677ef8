-- A text without brackets is its own expansion, and `x[n]` stands for n of x, however large n is. Assumes nothing.
use Prim.Native.Nat.{ℕ, ◌+◌, ◌-◌, ◌<◌}
use Prim.Native.Char.{code}
use mathlib.Core.Path.{◌≡◌, refl, sym, ap, ◌∙◌}
use mathlib.Core.Bool.{Bool, true, false, cond, not, ◌&&◌}
use mathlib.Core.List.{List, [], ◌∷◌, ◌++◌, append-nil}
use native.Mathlib.Omega.{arith}
use lib.Dec.{eqb}
use lib.ListN.{length, replicate, length-replicate}
use lib.Seq.{append_snoc}
use Rattle.std.specs.Prelude.{Err}
use Rattle.foundation.specs.declared.refusal.Fault.TheVariants.{LongType}
use Rattle.custom_type.specs.Number.{number_in}
use Rattle.custom_type.specs.Expansion.{Expansion, Mark, letter, mark_of, start, copied, step_by, step, gone_through, expanded}
use Rattle.custom_type.specs.Resolved.{told}
use Rattle.custom_type.proofs.Through.{gone_append}
use Rattle.custom_type.proofs.Answer.{too_long_lem}

-- no `[` and no `]`
abbrev pub is_letter : ℕ → Bool
is_letter c = not (eqb c (code "[")) && not (eqb c (code "]"))

abbrev pub are_letters : List ℕ → Bool
are_letters [] = true
are_letters (c ∷ s) = is_letter c && are_letters s

both : (a b : Bool) → (a && b) ≡ true → (a ≡ true) × (b ≡ true)
both true b e = (refl, e)
both false b e = let z : ◌≡◌ {A = ℕ} 0 1 = cc in absurd (omega arith)

is_letter_lem : (c : ℕ) → is_letter c ≡ true → mark_of c ≡ letter
is_letter_lem c e = go (eqb c 91) (eqb c 93) e
  where
    go : (a b : Bool) → (not a && not b) ≡ true → cond a Mark.opens (cond b Mark.closes letter) ≡ letter
    go true b e = let z : ◌≡◌ {A = ℕ} 0 1 = cc in absurd (omega arith)
    go false true e = let z : ◌≡◌ {A = ℕ} 0 1 = cc in absurd (omega arith)
    go false false e = refl

-- letters outside brackets are written, and behind a `[` collected
stand : (s w k : List ℕ) → are_letters s ≡ true
    → gone_through (record { written = w; collecting = false; collected = k }) s ≡ record { written = w ++ s; collecting = false; collected = k }
unfolding gone_through step
stand [] w k e = rw (append-nil w)
stand (c ∷ s) w k e =
    let h = both (is_letter c) (are_letters s) e in
    rw (is_letter_lem c h.0, stand s (w ++ c ∷ []) k h.1, append_snoc w c s)

collect : (s w k : List ℕ) → are_letters s ≡ true
    → gone_through (record { written = w; collecting = true; collected = k }) s ≡ record { written = w; collecting = true; collected = k ++ s }
unfolding gone_through step
collect [] w k e = rw (append-nil k)
collect (c ∷ s) w k e =
    let h = both (is_letter c) (are_letters s) e in
    rw (is_letter_lem c h.0, collect s w (k ++ c ∷ []) h.1, append_snoc k c s)

-- A TEXT WITHOUT BRACKETS
pub plain : (s : List ℕ) → are_letters s ≡ true → expanded s ≡ s
unfolding expanded
plain s e = ap (λ (x : Expansion). x.written) (stand s [] [] e)

-- `x[n]`
pub n_of : (x : ℕ) (n : List ℕ) → is_letter x ≡ true → are_letters n ≡ true
    → expanded (x ∷ code "[" ∷ (n ++ code "]" ∷ [])) ≡ x ∷ replicate (number_in n - 1) (copied x)
unfolding expanded gone_through step
n_of x n l e =
    ap (λ (m : Mark). (gone_through (step (step_by m start x) (code "[")) (n ++ code "]" ∷ [])).written) (is_letter_lem x l)
    ∙ ap (λ (y : Expansion). y.written) (gone_append (record { written = x ∷ []; collecting = true; collected = [] }) n (code "]" ∷ []))
    ∙ ap (λ (y : Expansion). (gone_through y (code "]" ∷ [])).written) (collect n (x ∷ []) [] e)

-- so a large n is refused, and nothing is counted up
pub large : (x : ℕ) (n : List ℕ) → is_letter x ≡ true → are_letters n ≡ true → 256 < number_in n → told (expanded (x ∷ code "[" ∷ (n ++ code "]" ∷ []))) ≡ Err LongType
large x n l e h =
    let long : length (expanded (x ∷ code "[" ∷ (n ++ code "]" ∷ []))) ≡ 1 + (number_in n - 1) =
    ap length (n_of x n l e) ∙ one_behind (number_in n - 1) in
    sym (too_long_lem (expanded (x ∷ code "[" ∷ (n ++ code "]" ∷ []))) (omega (arith, long)))
  where
    one_behind : (k : ℕ) → length (x ∷ replicate k (copied x)) ≡ 1 + k
    one_behind k = omega (arith, length-replicate k (copied x))
