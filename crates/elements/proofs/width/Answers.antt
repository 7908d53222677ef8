-- `width` meets its contract: each arm at its letters, by one law on the keys of an arm. Assumes nothing.
use mathlib.Core.Path.{◌≡◌, refl}
use mathlib.Core.List.{[], ◌∷◌}
use Prim.Native.Nat.{ℕ}
use lib.Dec.{lit≤}
use Rattle.elements.specs.Types.{width_of}
use Rattle.elements.proofs.Keys.{by_keys, no_key}
use Rattle.elements.proofs.width.Goals as goal

abbrev Is : ℕ → ℕ → Type 0
Is width letter = width ≡ width_of letter

pub returns-in-98 : goal.returns-in-98
unfolding width_of
returns-in-98 c = (by_keys (Is 1) (66 ∷ 98 ∷ []) _ c.in-98.is (refl, (refl, tt)), lit≤ tt)

pub returns-in-115 : goal.returns-in-115
unfolding width_of
returns-in-115 c = (by_keys (Is 2) (83 ∷ 115 ∷ []) _ c.in-115.is (refl, (refl, tt)), lit≤ tt)

pub returns-in-108 : goal.returns-in-108
unfolding width_of
returns-in-108 c = (by_keys (Is 4) (76 ∷ 102 ∷ 108 ∷ 113 ∷ []) _ c.in-108.is (refl, (refl, (refl, (refl, tt)))), lit≤ tt)

pub returns-in-100 : goal.returns-in-100
unfolding width_of
returns-in-100 c = (by_keys (Is 8) (74 ∷ 81 ∷ 100 ∷ 106 ∷ []) _ c.in-100.is (refl, (refl, (refl, (refl, tt)))), lit≤ tt)

pub returns-in_default : goal.returns-in_default
unfolding width_of
returns-in_default c =
    let r = c.in_default.in_default-own.rest in
    let one = no_key (66 ∷ 98 ∷ []) _ r.0.0.0.1 in
    let two = no_key (83 ∷ 115 ∷ []) _ r.0.0.1 in
    let four = no_key (76 ∷ 102 ∷ 108 ∷ 113 ∷ []) _ r.0.1 in
    let eight = no_key (74 ∷ 81 ∷ 100 ∷ 106 ∷ []) _ r.1 in
    (simp (one.0, one.1.0, two.0, two.1.0, four.0, four.1.0, four.1.1.0, four.1.1.1.0, eight.0, eight.1.0, eight.1.1.0, eight.1.1.1.0), lit≤ tt)
