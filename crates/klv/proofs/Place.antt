-- What `parse_header` answers at a place says of the level from there on: the three cases that a reader of items goes by.
-- A level is given as the payload up to the level's end, so its places are the payload's. Assumes nothing.
use Prim.Native.Nat.{ℕ, ◌+◌, ◌-◌, ◌<◌, ◌≤◌}
use mathlib.Core.Path.{◌≡◌, refl, sym, ap, ◌∙◌}
use mathlib.Core.List.{List}
use native.Mathlib.Omega.{arith}
use lib.ListN.{length, take, drop, length-drop}
use lib.Seq.{drop-drop}
use Rattle.foundation.proofs.Parts.{drop_take}
use Rattle.klv.specs.declared.KLV.{KLV}
use Rattle.std.specs.Prelude.{Ok, Err}
use Rattle.klv.specs.declared.Broken.TheVariants.{Short, Past}
use Rattle.klv.specs.Item.{data_len, aligned, First, few, past, item, first_item, payload_at, end_at, next_at}
use Rattle.klv.specs.Header.{told, header_at}
use Rattle.klv.specs.Level.{left, broken, node, items_of}
use Rattle.klv.proofs.Item.{of_few, of_item, Stands}
use Rattle.klv.proofs.Level.{items_first}

module _ (s : List ℕ) (at : ℕ) where
  -- nothing more
  pub record IsShort : Type 0 where
    pub few_left : length s - at < 8
    pub level : items_of (drop at s) ≡ left (length s - at)

  -- an item: it ends within the level; its payload and what stands behind it are levels too
  pub record IsItem (h : KLV) : Type 0 where
    pub fits : end_at at h ≤ length s
    pub level : items_of (drop at s) ≡ node h (payload_at s at h) (items_of (drop (at + 8) (take (end_at at h) s))) (items_of (drop (next_at at h) s))

  -- what stands first from the place on, in each case
  pub first_short : header_at s at ≡ Err Short → first_item (drop at s) ≡ few
  first_short e = go (first_item (drop at s)) refl e
    where
      go : (x : First) → first_item (drop at s) ≡ x → told x ≡ Err Short → first_item (drop at s) ≡ few
      go few k e' = k
      go past k e' = let o : ◌≡◌ {A = ℕ} 0 1 = cc in absurd (omega arith)
      go (item h p r) k e' = let o : ◌≡◌ {A = ℕ} 0 1 = cc in absurd (omega arith)

  pub first_past : header_at s at ≡ Err Past → first_item (drop at s) ≡ past
  first_past e = go (first_item (drop at s)) refl e
    where
      go : (x : First) → first_item (drop at s) ≡ x → told x ≡ Err Past → first_item (drop at s) ≡ past
      go few k e' = let o : ◌≡◌ {A = ℕ} 0 1 = cc in absurd (omega arith)
      go past k e' = k
      go (item h p r) k e' = let o : ◌≡◌ {A = ℕ} 0 1 = cc in absurd (omega arith)

  pub first_item_lem : (h : KLV) → header_at s at ≡ Ok h → first_item (drop at s) ≡ item h (payload_at s at h) (drop (next_at at h) s)
  first_item_lem h e = go (first_item (drop at s)) refl e
    where
      go : (x : First) → first_item (drop at s) ≡ x → told x ≡ Ok h → first_item (drop at s) ≡ item h (payload_at s at h) (drop (next_at at h) s)
      go few k e' = let o : ◌≡◌ {A = ℕ} 0 1 = cc in absurd (omega arith)
      go past k e' = let o : ◌≡◌ {A = ℕ} 0 1 = cc in absurd (omega arith)
      go (item g p r) k e' =
          let same : g ≡ h = cc in
          let w : Stands (drop at s) h p r = rw same at (of_item (drop at s) g p r k) in
          let payload : p ≡ payload_at s at h = w.payload_is ∙ ap (take (data_len h)) (drop-drop 8 at s) in
          let up : at + (8 + aligned (data_len h)) ≡ next_at at h = omega arith in
          let rest : r ≡ drop (next_at at h) s = w.rest_is ∙ drop-drop (8 + aligned (data_len h)) at s ∙ ap (λ (n : ℕ). drop n s) up in
          k ∙ (λ i. item (same i) (payload i) (rest i))

  -- and so the level from there on
  pub at_short : header_at s at ≡ Err Short → IsShort
  at_short e =
      let k = first_short e in
      record {
        few_left = omega (arith, of_few (drop at s) k, length-drop at s);
        level = items_first (drop at s) few k ∙ ap left (length-drop at s);
      }

  pub at_past : header_at s at ≡ Err Past → items_of (drop at s) ≡ broken
  at_past e = items_first (drop at s) past (first_past e)

  pub at_item : (h : KLV) → header_at s at ≡ Ok h → IsItem h
  at_item h e =
      let k = first_item_lem h e in
      let w = of_item (drop at s) h (payload_at s at h) (drop (next_at at h) s) k in
      let inside : payload_at s at h ≡ drop (at + 8) (take (end_at at h) s) = sym (drop_take (at + 8) (data_len h) s) in
      record {
        fits = omega (arith, w.room, w.fits, length-drop at s);
        level =
            items_first (drop at s) (item h (payload_at s at h) (drop (next_at at h) s)) k
            ∙ ap (λ (l : List ℕ). node h (payload_at s at h) (items_of l) (items_of (drop (next_at at h) s))) inside;
      }
