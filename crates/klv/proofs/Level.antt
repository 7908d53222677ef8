-- The items of some bytes: the one equation by fuel, and what a node of the tree comes of. Assumes nothing.
use Prim.Native.Nat.{ℕ}
use mathlib.Core.Path.{◌≡◌, refl, sym, ap, ◌∙◌}
use mathlib.Core.List.{List, []}
use native.Mathlib.Omega.{arith}
use lib.ListN.{length}
use Rattle.foundation.specs.Fuel.{Falls, fix_eq}
use Rattle.klv.specs.declared.KLV.{KLV}
use Rattle.klv.specs.Item.{First, few, past, item, first_item}
use Rattle.klv.specs.Level.{Level, left, node, level_from, step_items, items_of}
use Rattle.klv.proofs.Item.{item_lengths, first_few}

-- an item's payload and what stands behind it are shorter than the bytes that it stands in
falls : Falls length (left 0) step_items
falls f g s same = go (first_item s) refl
  where
    go : (x : First) → first_item s ≡ x → level_from f s x ≡ level_from g s x
    go few e = refl
    go past e = refl
    go (item h p r) e =
        let n = item_lengths s h p r e in
        let ep : f p ≡ g p = same p (omega (arith, n.payload)) in
        let er : f r ≡ g r = same r (omega (arith, n.payload, n.rest)) in
        cc

-- THE EQUATION of a level's items
pub items_eq : (s : List ℕ) → items_of s ≡ level_from items_of s (first_item s)
unfolding items_of
items_eq s = fix_eq length (left 0) step_items falls s

pub items_first : (s : List ℕ) (x : First) → first_item s ≡ x → items_of s ≡ level_from items_of s x
items_first s x e = items_eq s ∙ ap (level_from items_of s) e

pub items_none : items_of [] ≡ left 0
items_none = items_first [] few (first_few [] (omega arith))

-- a node comes of an item
pub record Comes (s : List ℕ) (h : KLV) (payload : List ℕ) (inside behind : Level) : Type 0 where
  pub rest : List ℕ
  pub is_item : first_item s ≡ item h payload rest
  pub is_inside : items_of payload ≡ inside
  pub is_behind : items_of rest ≡ behind

pub of_node : (s : List ℕ) (h : KLV) (p : List ℕ) (i b : Level) → items_of s ≡ node h p i b → Comes s h p i b
of_node s h p i b e = go (first_item s) refl (sym (items_eq s) ∙ e)
  where
    go : (x : First) → first_item s ≡ x → level_from items_of s x ≡ node h p i b → Comes s h p i b
    go few k e' = let o : ◌≡◌ {A = ℕ} 0 1 = cc in absurd (omega arith)
    go past k e' = let o : ◌≡◌ {A = ℕ} 0 1 = cc in absurd (omega arith)
    go (item g q r) k e' = record { rest = r; is_item = cc; is_inside = cc; is_behind = cc }
