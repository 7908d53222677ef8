-- What stands first in some bytes: the three cases by lengths, and an item laid out and read back. Assumes nothing.
use Prim.Native.Nat.{ℕ, ◌+◌, ◌-◌, ◌<◌, ◌≤◌}
use mathlib.Core.Path.{◌≡◌, refl, sym, ap, ◌∙◌}
use mathlib.Core.List.{List}
use mathlib.Core.Bool.{true, false}
use native.Mathlib.Omega.{arith}
use native.Mathlib.Decide.{dec_le, dec_lt}
use borrow.Author.Tests.{lt-ltb, le-ltb, le-leb, lt-leb}
use lib.Dec.{leb}
use lib.ListN.{length, take, drop, length-take, length-drop}
use lib.Seq.{drop-drop}
use Rattle.klv.specs.declared.KLV.{KLV}
use Rattle.klv.specs.Item.{header_of, data_len, aligned, few, past, item, behind, first_item}

-- an item that stands first in s: its header, its payload and what is behind it are parts of s
pub record Stands (s : List ℕ) (h : KLV) (payload rest : List ℕ) : Type 0 where
  pub room : 8 ≤ length s
  pub fits : data_len h ≤ length s - 8
  pub header : h ≡ header_of s
  pub payload_is : payload ≡ take (data_len h) (drop 8 s)
  pub rest_is : rest ≡ drop (8 + aligned (data_len h)) s

module _ (s : List ℕ) where
  -- the length that the header gives the payload
  abbrev len : ℕ
  len = data_len (header_of s)

  pub first_few : length s < 8 → first_item s ≡ few
  unfolding first_item
  first_few h = rw (lt-ltb (length s) 8 h)

  pub first_behind : 8 ≤ length s → first_item s ≡ behind (header_of s) (drop 8 s)
  unfolding first_item
  first_behind h = rw (le-ltb (length s) 8 h)

  pub first_past : 8 ≤ length s → length s - 8 < len → first_item s ≡ past
  first_past h k =
      let over : leb len (length (drop 8 s)) ≡ false = lt-leb len (length (drop 8 s)) (simp length-drop k) in
      rw (first_behind h, over)

  pub first_item_lem : 8 ≤ length s → len ≤ length s - 8 → first_item s ≡ item (header_of s) (take len (drop 8 s)) (drop (8 + aligned len) s)
  first_item_lem h k =
      let fits : leb len (length (drop 8 s)) ≡ true = le-leb len (length (drop 8 s)) (simp length-drop k) in
      rw (first_behind h, fits, drop-drop)

  -- THE THREE CASES, of which one holds
  pub by_first_lem : (P : Type 0) → (length s < 8 → P) → (8 ≤ length s → length s - 8 < len → P) → (8 ≤ length s → len ≤ length s - 8 → P) → P
  by_first_lem P f g k = go (dec_lt (length s) 8) (dec_le len (length s - 8))
    where
      go : Dec (length s < 8) → Dec (len ≤ length s - 8) → P
      go (yes a) d = f a
      go (no a) (yes b) = k (omega arith) b
      go (no a) (no b) = g (omega arith) (omega arith)

  pub of_few : first_item s ≡ few → length s < 8
  of_few e =
      by_first_lem (length s < 8) (λ l. l)
      (λ a b. let p = first_past a b in let o : ◌≡◌ {A = ℕ} 0 1 = cc in absurd (omega arith))
      (λ a b. let p = first_item_lem a b in let o : ◌≡◌ {A = ℕ} 0 1 = cc in absurd (omega arith))

  pub of_item : (h : KLV) (p r : List ℕ) → first_item s ≡ item h p r → Stands s h p r
  of_item h p r e =
      by_first_lem (Stands s h p r)
      (λ l. let q = first_few l in let o : ◌≡◌ {A = ℕ} 0 1 = cc in absurd (omega arith))
      (λ a b. let q = first_past a b in let o : ◌≡◌ {A = ℕ} 0 1 = cc in absurd (omega arith))
      (λ a b. let q = first_item_lem a b in
      let eh : h ≡ header_of s = cc in
      let ep : p ≡ take len (drop 8 s) = cc in
      let er : r ≡ drop (8 + aligned len) s = cc in
      rw eh (record { room = a; fits = b; header = refl; payload_is = ep; rest_is = er }))

-- ---- the lengths of an item's parts
pub record Lengths (s : List ℕ) (h : KLV) (p r : List ℕ) : Type 0 where
  pub is_data : length p ≡ data_len h
  pub payload : 8 + length p ≤ length s
  pub rest : length r ≡ length s - (8 + aligned (length p))

pub item_lengths : (s : List ℕ) (h : KLV) (p r : List ℕ) → first_item s ≡ item h p r → Lengths s h p r
item_lengths s h p r e =
    let w = of_item s h p r e in
    let n : length p ≡ data_len h = ap length w.payload_is ∙ simp (length-take, length-drop) (omega (arith, w.fits)) in
    record {
      is_data = n;
      payload = omega (arith, w.room, w.fits);
      rest = ap length w.rest_is ∙ length-drop (8 + aligned (data_len h)) s ∙ ap (λ (k : ℕ). length s - (8 + aligned k)) (sym n);
    }
