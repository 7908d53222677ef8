-- A search through a table, from the front: what its loop knows at a hit, after a miss, and at the end. Assumes nothing.
use Prim.Native.Nat.{ℕ, ◌+◌, ◌<◌, ◌≤◌}
use mathlib.Core.Path.{◌≡◌, sym, ap, ◌∙◌}
use mathlib.Core.List.{List}
use native.Mathlib.Numerals.{add-one}
use borrow.Author.Tests.{eq-eqb, ne_eqb}
use lib.ListN.{length, get_or, drop, drop_of_length-le}
use lib.Seq.{drop-cons}
use Rattle.keys.specs.Table.{found}
use Rattle.keys.specs.declared.Known.{Known}

-- before the turn at i: what the table t says of the key k, its entries from i on say
abbrev pub Sought : List Known → ℕ → ℕ → Type 0
Sought t k i = found t k ≡ found (drop i t) k

module _ (t : List Known) (k i : ℕ) (s : Sought t k i) where
  pub hit : (d : Known) → i < length t → (get_or t i d).key ≡ k → (get_or t i d).id ≡ found t k
  unfolding found
  hit d h e = sym (s ∙ ap (λ (l : List Known). found l k) (drop-cons t i d h) ∙ simp (eq-eqb _ _ e))

  pub miss : (d : Known) → i < length t → ((get_or t i d).key ≡ k → ⊥) → Sought t k (i + 1)
  unfolding found
  miss d h n = s ∙ ap (λ (l : List Known). found l k) (drop-cons t i d h) ∙ simp (ne_eqb _ _ n, add-one)

  pub none : length t ≤ i → 0 ≡ found t k
  unfolding found
  none h = sym (s ∙ ap (λ (l : List Known). found l k) (drop_of_length-le t h))
