-- A test of a whole list, which antt computes, turned into the rule at each element. Assumes nothing.
use Prim.Native.Nat.{ℕ}
use mathlib.Core.Path.{◌≡◌, sym, subst}
use mathlib.Core.HLevel.{⊥_prop}
use mathlib.Core.Logic.{⊎_elim, ∥∥₁_elim}
use mathlib.Core.Bool.{Bool, true, false, not, ◌&&◌}
use mathlib.Core.List.Memᴰ
use mathlib.Core.List.Pairwise
use mathlib.Core.List.{List, [], ◌∷◌, Memᴰ, Nodup}
use lib.Dec.{T, T_not, eqb, eqb_refl}

pub both : (a b : Bool) → T (a && b) → T a × T b
both true b h = (tt, h)
both false b h = absurd h

module _ {A : Type 0} where
  -- the test passes at each element
  abbrev pub every : (A → Bool) → List A → Bool
  every p [] = true
  every p (a ∷ l) = p a && every p l

  -- THE RULE at each element
  pub at_each : (p : A → Bool) (l : List A) → T (every p l) → (a : A) → Memᴰ a l → T (p a)
  at_each p [] h a m = absurd (Memᴰ.not-nil m)
  at_each p (x ∷ l) h a m =
      let (first, rest) = both (p x) (every p l) h in
      ⊎_elim (λ (e : a ≡ x). subst (λ (y : A). T (p y)) (sym e) first) (at_each p l rest a) (Memᴰ.cases_cons m)

-- no number stands twice
abbrev pub apart : List ℕ → Bool
apart [] = true
apart (k ∷ ks) = every (λ (j : ℕ). not (eqb k j)) ks && apart ks

pub all_different : (ks : List ℕ) → T (apart ks) → Nodup ks
all_different [] h = Pairwise.nil
all_different (k ∷ ks) h =
    let other : ℕ → Bool = λ j. not (eqb k j) in
    let (first, rest) = both (every other ks) (apart ks) h in
    let never : (j : ℕ) → Memᴰ j ks → k ≡ j → ⊥ = λ j m e. T_not (eqb k j) (at_each other ks first j m) (subst (λ (i : ℕ). T (eqb k i)) e (eqb_refl k)) in
    Pairwise.cons (λ j m e. ∥∥₁_elim m ⊥_prop (λ d. never j d e)) (all_different ks rest)
