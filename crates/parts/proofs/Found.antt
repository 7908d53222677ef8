-- An item that was found at a place: its payload stands behind its header, all of it within what was lent. Assumes nothing.
use Prim.Native.Nat.{ℕ, ◌+◌, ◌≤◌}
use mathlib.Core.Path.{◌≡◌, refl, sym, ap, ◌∙◌}
use mathlib.Core.Bool.{Bool, true, false, cond}
use mathlib.Core.List.{List, [], ◌∷◌}
use native.Mathlib.Omega.{arith}
use borrow.Author.Tests.{ltb-false}
use lib.Dec.{ltb}
use lib.ListN.{length, take, drop, length-drop}
use lib.Seq.{drop-drop}
use Rattle.klv.specs.declared.KLV.{KLV}
use Rattle.klv.specs.Item.{data_len, First, few, past, item, first_item, header_of}
use Rattle.klv.proofs.Item.{of_item, item_lengths}
use Rattle.std.specs.Prelude.{Ok, Err}
use Rattle.foundation.specs.declared.refusal.Refusal.{Refusal}
use Rattle.items.specs.At.{Named, named, bad, Found, found, stopped, type_for, over_if, whole_if, found_by, found_at}
use Rattle.values.specs.At.{klv_of_found}
use Rattle.parts.specs.Parts.{bytes_from, cut, bytes_of_found}

pub record StandsAt (s : List ℕ) (at : ℕ) (h : KLV) (payload : List ℕ) : Type 0 where
  pub within : length s ≤ 1048576
  pub fits : at + 8 + length payload ≤ length s
  pub is_data : length payload ≡ data_len h
  pub is : bytes_from (at + 8) (length payload) s ≡ payload

module _ (s : List ℕ) (at type : ℕ) (h : KLV) (payload text : List ℕ) where
  -- what is found is what stands first from the place on
  of_over : (n : Named) → over_if n at ≡ found h payload text → ⊥
  of_over (named t) e = let o : ◌≡◌ {A = ℕ} 0 1 = cc in omega arith
  of_over bad e = let o : ◌≡◌ {A = ℕ} 0 1 = cc in omega arith

  of_whole : (n : Named) (g : KLV) (p : List ℕ) → whole_if n g p at ≡ found h payload text → (g ≡ h) × (p ≡ payload)
  of_whole (named t) g p e = (cc, cc)
  of_whole bad g p e = let o : ◌≡◌ {A = ℕ} 0 1 = cc in absurd (omega arith)

  of_first : (x : First) → found_by x s at type ≡ found h payload text → (rest : List ℕ) × (x ≡ item h payload rest)
  of_first few e = let o : ◌≡◌ {A = ℕ} 0 1 = cc in absurd (omega arith)
  of_first past e = absurd (of_over (type_for (header_of (drop at s)).data_type s type) e)
  of_first (item g [] rest) e = let o : ◌≡◌ {A = ℕ} 0 1 = cc in absurd (omega arith)
  of_first (item g (b ∷ p) rest) e =
      let same = of_whole (type_for g.data_type s type) g (b ∷ p) e in
      (rest, λ i. item (same.0 i) (same.1 i) rest)

  -- so it stands there whole
  stands_first : length s ≤ 1048576 → found_by (first_item (drop at s)) s at type ≡ found h payload text → StandsAt s at h payload
  stands_first within e =
      let first = of_first (first_item (drop at s)) e in
      let w = of_item (drop at s) h payload first.0 first.1 in
      let l = item_lengths (drop at s) h payload first.0 first.1 in
      record {
        within = within;
        fits = omega (arith, l.payload, w.room, length-drop at s);
        is_data = l.is_data;
        is = ap (λ (n : ℕ). take n (drop (at + 8) s)) l.is_data ∙ ap (take (data_len h)) (sym (drop-drop 8 at s)) ∙ sym w.payload_is;
      }

  pub stands : found_at s at type ≡ found h payload text → StandsAt s at h payload
  unfolding found_at
  stands e = go (ltb 1048576 (length s)) refl e
    where
      go : (b : Bool) → ltb 1048576 (length s) ≡ b → cond b (stopped 1 0) (found_by (first_item (drop at s)) s at type) ≡ found h payload text → StandsAt s at h payload
      go true over e' = let o : ◌≡◌ {A = ℕ} 0 1 = cc in absurd (omega arith)
      go false over e' = stands_first (ltb-false 1048576 (length s) over) e'

  -- THE BYTES of an item are the payload that its header gives it
  pub bytes_are : found_at s at type ≡ found h payload text → cut (bytes_of_found (found_at s at type) at) s ≡ payload
  bytes_are e = ap (λ (f : Found). cut (bytes_of_found f at) s) e ∙ (stands e).is

-- ---- by the header that is told
module _ (s : List ℕ) (at type : ℕ) where
  pub record Found-by (h : KLV) : Type 0 where
    pub payload : List ℕ
    pub text : List ℕ
    pub is : found_at s at type ≡ found h payload text
    pub there : StandsAt s at h payload

  pub by_header : (h : KLV) → Ok h ≡ klv_of_found (found_at s at type) → Found-by h
  by_header h e = go (found_at s at type) refl (sym e)
    where
      go : (x : Found) → found_at s at type ≡ x → klv_of_found x ≡ Ok h → Found-by h
      go (stopped number place) k e' = let o : ◌≡◌ {A = ℕ} 0 1 = cc in absurd (omega arith)
      go (found g payload text) k e' =
          let same : g ≡ h = cc in
          let is : found_at s at type ≡ found h payload text = k ∙ ap (λ (x : KLV). found x payload text) same in
          record { payload = payload; text = text; is = is; there = stands s at type h payload text is }

  pub by_refusal : (r : Refusal) → Err r ≡ klv_of_found (found_at s at type) → found_at s at type ≡ stopped r.number r.place
  by_refusal r e = go (found_at s at type) refl (sym e)
    where
      go : (x : Found) → found_at s at type ≡ x → klv_of_found x ≡ Err r → found_at s at type ≡ stopped r.number r.place
      go (stopped n p) k e' = let same : record { number = n; place = p } ≡ r = cc in k ∙ (λ i. stopped (same i).number (same i).place)
      go (found g payload text) k e' = let o : ◌≡◌ {A = ℕ} 0 1 = cc in absurd (omega arith)
