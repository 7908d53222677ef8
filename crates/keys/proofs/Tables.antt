-- What a table says of every key, by one computed test of the whole table; and that its order is free. Assumes nothing.
use Prim.Native.Nat.{ℕ, ◌<◌}
use mathlib.Core.Path.{◌≡◌, refl, sym, ap, ◌∙◌}
use mathlib.Core.Logic.{◌↔◌, ◌≢◌}
use mathlib.Core.Bool.{Bool, true, false, cond, ◌&&◌}
use mathlib.Core.List.{List, [], ◌∷◌, map, Memᴰ, Nodup}
use native.Mathlib.Decide.{ℕ_discrete}
use native.Mathlib.Omega.{arith}
use borrow.Author.Tests.{eqb-true}
use lib.Dec.{T, eqb, eqb→eq, ltb, ltb→lt}
use Rattle.keys.specs.Table.{found}
use Rattle.keys.specs.declared.Known.{Known}
use Rattle.keys.proofs.Every.{both, every, at_each, apart, all_different}

-- the number n stands beside the key k
abbrev pub Beside : List Known → ℕ → ℕ → Type 0
Beside t k n = Memᴰ (record { key = k; id = n }) t

abbrev pub keys_of : List Known → List ℕ
keys_of t = map (λ (e : Known). e.key) t

-- what a table says of every key
pub record Says (t : List Known) : Type 0 where
  -- each listed key is found with its number
  pub listed : (k n : ℕ) → Beside t k n → found t k ≡ n
  -- a number that is not 0 belongs to a listed key
  pub belongs : (k : ℕ) → found t k ≢ 0 → Beside t k (found t k)
  -- every other key gives 0, and no listed one does
  pub others : (k : ℕ) → (found t k ≡ 0) ↔ ((n : ℕ) → ¬ (Beside t k n))
  -- the listed keys are all different
  pub different : Nodup (keys_of t)

-- what is found, where it is not 0, stands beside the key
found_beside : (t : List Known) (k : ℕ) → found t k ≢ 0 → Beside t k (found t k)
unfolding found
found_beside [] k n = absurd (n refl)
found_beside (e ∷ t) k n = go (eqb e.key k) refl (found_beside t k) n
  where
    go : (b : Bool) → eqb e.key k ≡ b → (found t k ≢ 0 → Beside t k (found t k)) → cond b e.id (found t k) ≢ 0 → Beside (e ∷ t) k (cond b e.id (found t k))
    go true q rest n = Memᴰ.head (ap (λ (j : ℕ). record { key = j; id = e.id }) (sym (eqb-true e.key k q)))
    go false q rest n = Memᴰ.tail (rest n)

none_beside : (t : List Known) (k : ℕ) → ((n : ℕ) → ¬ (Beside t k n)) → found t k ≡ 0
none_beside t k absent = go (ℕ_discrete (found t k) 0)
  where
    go : Dec (found t k ≡ 0) → found t k ≡ 0
    go (yes e) = e
    go (no n) = absurd (absent (found t k) (found_beside t k n))

-- each entry of t is what u says of its key
abbrev pub tells : List Known → List Known → Bool
tells t u = every (λ (e : Known). eqb (found u e.key) e.id) t

told : (t u : List Known) → T (tells t u) → (k n : ℕ) → Beside t k n → found u k ≡ n
told t u h k n m = eqb→eq (found u k) n (at_each (λ (e : Known). eqb (found u e.key) e.id) t h (record { key = k; id = n }) m)

-- no entry has the number 0
abbrev pub numbered : List Known → Bool
numbered t = every (λ (e : Known). ltb 0 e.id) t

above_0 : (t : List Known) → T (numbered t) → (k n : ℕ) → Beside t k n → 0 < n
above_0 t h k n m = ltb→lt 0 n (at_each (λ (e : Known). ltb 0 e.id) t h (record { key = k; id = n }) m)

-- THE TEST of a table: it tells its own entries, none of them is 0, and no key stands twice
abbrev pub sound : List Known → Bool
sound t = tells t t && (numbered t && apart (keys_of t))

pub says : (t : List Known) → T (sound t) → Says t
says t h =
    let (own, more) = both (tells t t) (numbered t && apart (keys_of t)) h in
    let (positive, once) = both (numbered t) (apart (keys_of t)) more in
    let never : (k : ℕ) → found t k ≡ 0 → (n : ℕ) → ¬ (Beside t k n) = λ k e n m. omega (arith, told t t own k n m, above_0 t positive k n m) in
    record {
      listed = told t t own;
      belongs = found_beside t;
      others = λ k. (never k, none_beside t k);
      different = all_different (keys_of t) once;
    }

-- THE ORDER is free: two tables that tell each other's entries say the same of every key
pub same : (t u : List Known) → T (tells t u) → T (tells u t) → (k : ℕ) → found t k ≡ found u k
same t u h g k = go (ℕ_discrete (found t k) 0) (ℕ_discrete (found u k) 0)
  where
    go : Dec (found t k ≡ 0) → Dec (found u k ≡ 0) → found t k ≡ found u k
    go (no n) d = sym (told t u h k (found t k) (found_beside t k n))
    go (yes e) (no n) = told u t g k (found u k) (found_beside u k n)
    go (yes e) (yes f) = e ∙ sym f
