-- What the chain ends at: bytes have a last item or are refused, and the last item stands whole at its place, with nothing but padding behind it.
-- Assumes nothing.
use Prim.Native.Nat.{ℕ, zero, suc, ◌≤◌}
use mathlib.Core.Path.{◌≡◌, refl, sym, ap, ◌∙◌}
use mathlib.Core.List.{List}
use native.Mathlib.Decide.{dec_le}
use native.Mathlib.Omega.{arith}
use lib.ListN.{length, take, drop, length-take, length-drop}
use Rattle.klv.specs.declared.KLV.{KLV}
use Rattle.std.specs.Prelude.{Ok}
use Rattle.klv.specs.Header.{header_at}
use Rattle.klv.specs.Item.{First, few, past, item, first_item, next_at}
use Rattle.klv.specs.Level.{Level, left, broken, node, level_from, items_of}
use Rattle.klv.proofs.Level.{items_eq}
use Rattle.reading.specs.Last.{Last, none, last, stopped, or_else, last_item, last_reading}
use Rattle.reading.specs.Place.{level_at}
use Rattle.reading.proofs.Payload.{last_long, last_within}
use Rattle.reading.proofs.Place.{NodeThere, node_there, whole_level}

or_some : (at : ℕ) (h : KLV) (l : Last) → or_else (last at h) l ≡ none → ⊥
or_some at h none e = let o : ◌≡◌ {A = ℕ} 0 1 = cc in omega arith
or_some at h (last p g) e = let o : ◌≡◌ {A = ℕ} 0 1 = cc in omega arith
or_some at h (stopped why p) e = let o : ◌≡◌ {A = ℕ} 0 1 = cc in omega arith

-- only no bytes have no last item
pub last_none : (s : List ℕ) (at : ℕ) → last_item (items_of s) at ≡ none → length s ≡ 0
unfolding last_item
last_none s at e = go (first_item s) (rw (items_eq s) at e)
  where
    by_left : (n : ℕ) → last_item (left n) at ≡ none → n ≡ 0
    by_left zero k = refl
    by_left (suc n) k = let o : ◌≡◌ {A = ℕ} 0 1 = cc in absurd (omega arith)

    go : (x : First) → last_item (level_from items_of s x) at ≡ none → length s ≡ 0
    go few k = by_left (length s) k
    go past k = let o : ◌≡◌ {A = ℕ} 0 1 = cc in absurd (omega arith)
    go (item h p r) k = absurd (or_some at h (last_item (items_of r) (next_at at h)) k)

-- the last item of the payload s stands at a place, and its padding reaches to the end of the level
pub record LastStands (s : List ℕ) (end at : ℕ) (h : KLV) : Type 0 where
  pub header : header_at s at ≡ Ok h
  pub nothing_behind : end ≤ next_at at h

module _ (s : List ℕ) (end : ℕ) (in_s : end ≤ length s) where
  stands : (level : Level) (at p : ℕ) (g : KLV) → level_at s at end ≡ level → last_item level at ≡ last p g → LastStands s end p g
  unfolding last_item
  stands (left zero) at p g t e = let o : ◌≡◌ {A = ℕ} 0 1 = cc in absurd (omega arith)
  stands (left (suc n)) at p g t e = let o : ◌≡◌ {A = ℕ} 0 1 = cc in absurd (omega arith)
  stands broken at p g t e = let o : ◌≡◌ {A = ℕ} 0 1 = cc in absurd (omega arith)
  stands (node h payload within behind) at p g t e = go (stands behind (next_at at h) p g) (last_item behind (next_at at h)) refl e
    where
      n : NodeThere s at end h payload within behind
      n = node_there s at end h payload within behind t

      go : (level_at s (next_at at h) end ≡ behind → last_item behind (next_at at h) ≡ last p g → LastStands s end p g) → (l : Last) → last_item behind (next_at at h) ≡ l → or_else (last at h) l ≡ last p g
          → LastStands s end p g
      go later none k e' =
          let place : at ≡ p = cc in
          let header : h ≡ g = cc in
          let gone = last_none (drop (next_at at h) (take end s)) (next_at at h) (ap (λ (x : Level). last_item x (next_at at h)) n.rest ∙ k) in
          let long = length-take end s in
          rw (← place, ← header) (record { header = n.there.whole; nothing_behind = omega (arith, gone, length-drop (next_at at h) (take end s)) })
      go later (last q f) k e' = later n.rest (k ∙ e')
      go later (stopped why q) k e' = let o : ◌≡◌ {A = ℕ} 0 1 = cc in absurd (omega arith)

-- THE LAST ITEM of a payload stands at its place
pub last_stands : (s : List ℕ) (at : ℕ) (h : KLV) → last_reading s ≡ last at h → LastStands s (length s) at h
last_stands s at h e = go (dec_le (length s) 1048576)
  where
    go : Dec (length s ≤ 1048576) → LastStands s (length s) at h
    go (yes l) = stands s (length s) (omega arith) (items_of s) 0 at h (whole_level s) (sym (last_within s l) ∙ e)
    go (no l) = let long = last_long s (omega arith) in let o : ◌≡◌ {A = ℕ} 0 1 = cc in absurd (omega arith)
