-- An item laid out and read back, and read and laid out again; a level with one item more in front. Assumes nothing.
use Prim.Native.Nat.{ℕ, ◌+◌, ◌-◌, ◌≤◌, min}
use mathlib.Core.Path.{◌≡◌, refl, sym, ap, ◌∙◌, subst}
use mathlib.Core.List.{List, [], ◌∷◌, ◌++◌, append_assoc, append-nil}
use mathlib.Core.Bool.{true}
use native.Mathlib.Decide.{dec_le}
use native.Mathlib.Omega.{arith}
use borrow.Author.Tests.{le-leb}
use lib.Dec.{leb}
use lib.ListN.{length, take, drop, get_or, length-append, length-take, length-drop, take-append-drop, drop_of_length-le}
use lib.Seq.{drop-cons, drop-drop, drop_at, take-append_seam}
use Rattle.foundation.specs.BigEndian.{big_endian, bytes_of, AreBytes}
use Rattle.foundation.proofs.BigEndian.{read_back, laid_back, part_bound}
use Rattle.foundation.proofs.Bytes.{take_bytes, drop_bytes}
use Rattle.klv.specs.declared.KLV.{KLV}
use Rattle.klv.specs.Item.{header_of, data_len, aligned, item, behind, first_item, Written, header_bytes, laid_out, Padded, whole, missing}
use Rattle.klv.specs.Level.{node, items_of}
use Rattle.klv.proofs.Item.{first_behind, of_item, Lengths, item_lengths}
use Rattle.klv.proofs.Level.{items_first}

-- ---- laid out, then read

-- a header's bytes are read as the header, whatever stands behind them
pub header_back : (h : KLV) (s : List ℕ) → Written h → header_of (header_bytes h ++ s) ≡ h
header_back h s w =
    let key = read_back 4 h.key w.key in
    let repeat = read_back 2 h.repeat w.repeat in
    λ i. record { key = key i; data_type = h.data_type; size = h.size; repeat = repeat i }

-- behind a payload and its padding
past_padding : (p padding s : List ℕ) → Padded (length p) padding s → drop (aligned (length p)) ((p ++ padding) ++ s) ≡ s
past_padding p padding s (whole e) = drop_at (p ++ padding) s (aligned (length p)) (length-append p padding ∙ e)
past_padding p padding [] (missing l) = drop_of_length-le ((p ++ padding) ++ []) {i = aligned (length p)} (simp (length-append, append-nil) (omega arith))

pub first_laid : (h : KLV) (p padding s : List ℕ) → Written h → data_len h ≡ length p → Padded (length p) padding s
    → first_item (laid_out h p padding ++ s) ≡ item h p s
first_laid h p padding s w n k =
    let rest : List ℕ = (p ++ padding) ++ s in
    let front : take (length p) rest ≡ p = ap (take (length p)) (append_assoc p padding s) ∙ take-append_seam p (padding ++ s) in
    let l : leb (length p) (length rest) ≡ true = le-leb (length p) (length rest) (simp length-append (omega arith)) in
    first_behind (laid_out h p padding ++ s) (omega arith)
    ∙ ap (λ (g : KLV). behind g rest) (header_back h rest w)
    ∙ rw (n, l, front, past_padding p padding s k)

-- THE LEVEL with an item more in front: one node more
pub items_laid : (h : KLV) (p padding s : List ℕ) → Written h → data_len h ≡ length p → Padded (length p) padding s
    → items_of (laid_out h p padding ++ s) ≡ node h p (items_of p) (items_of s)
items_laid h p padding s w n k = items_first (laid_out h p padding ++ s) (item h p s) (first_laid h p padding s w n k)

-- ---- read, then laid out

module _ (s : List ℕ) (bytes : AreBytes s) (room : 8 ≤ length s) where
  abbrev key : List ℕ
  key = take 4 s

  abbrev repeat : List ℕ
  repeat = take 2 (drop 6 s)

  key_back : bytes_of 4 (big_endian key) ≡ key
  key_back =
      let n : length key ≡ 4 = simp length-take (omega arith) in
      ap (λ (k : ℕ). bytes_of k (big_endian key)) (sym n) ∙ laid_back key (take_bytes 4 s bytes)

  repeat_back : bytes_of 2 (big_endian repeat) ≡ repeat
  repeat_back =
      let n : length repeat ≡ 2 = simp (length-take, length-drop) (omega arith) in
      ap (λ (k : ℕ). bytes_of k (big_endian repeat)) (sym n) ∙ laid_back repeat (take_bytes 2 (drop 6 s) (drop_bytes 6 s bytes))

  in_parts : key ++ (get_or s 4 0 ∷ get_or s 5 0 ∷ (repeat ++ drop 8 s)) ≡ s
  in_parts =
      let from6 : repeat ++ drop 8 s ≡ drop 6 s = ap (λ (l : List ℕ). repeat ++ l) (sym (drop-drop 2 6 s)) ∙ take-append-drop 2 (drop 6 s) in
      let from5 : get_or s 5 0 ∷ drop 6 s ≡ drop 5 s = sym (drop-cons s 5 0 (omega arith)) in
      let from4 : get_or s 4 0 ∷ drop 5 s ≡ drop 4 s = sym (drop-cons s 4 0 (omega arith)) in
      rw (from6, from5, from4) (take-append-drop 4 s)

  -- bytes that hold a header are its bytes, and what stands behind them
  pub bytes_back : header_bytes (header_of s) ++ drop 8 s ≡ s
  bytes_back =
      ap (λ (k : List ℕ). k ++ (get_or s 4 0 ∷ get_or s 5 0 ∷ (bytes_of 2 (big_endian repeat) ++ drop 8 s))) key_back
      ∙ ap (λ (r : List ℕ). key ++ (get_or s 4 0 ∷ get_or s 5 0 ∷ (r ++ drop 8 s))) repeat_back
      ∙ in_parts

  pub header_written : Written (header_of s)
  header_written = record { key = part_bound 4 s bytes; letter = bytes 4; size = bytes 5; repeat = part_bound 2 (drop 6 s) (drop_bytes 6 s bytes) }

-- the padding of the item that stands first, as far as it is there
abbrev pub padding_of : KLV → List ℕ → List ℕ
padding_of h s = take (aligned (data_len h) - data_len h) (drop (8 + data_len h) s)

nothing : (r : List ℕ) → length r ≡ 0 → r ≡ []
nothing [] e = refl
nothing (b ∷ r) e = absurd (omega arith)

-- an item that stands first, as it was laid out
pub record Laid (s : List ℕ) (h : KLV) (p r : List ℕ) : Type 0 where
  pub written : Written h
  pub is_data : data_len h ≡ length p
  pub padded : Padded (length p) (padding_of h s) r
  pub is : s ≡ laid_out h p (padding_of h s) ++ r

-- whole padding, or all that is left
is_padded : (s : List ℕ) (h : KLV) (p r : List ℕ) → first_item s ≡ item h p r → Padded (length p) (padding_of h s) r
is_padded s h p r e = go (dec_le (8 + aligned (data_len h)) (length s))
  where
    n : Lengths s h p r
    n = item_lengths s h p r e

    long : length (padding_of h s) ≡ min (aligned (data_len h) - data_len h) (length s - (8 + data_len h))
    long = simp (length-take, length-drop)

    go : Dec (8 + aligned (data_len h) ≤ length s) → Padded (length p) (padding_of h s) r
    go (yes l) = whole (omega (arith, long, n.is_data))
    go (no l) =
        let none : length r ≡ 0 = omega (arith, n.rest, n.is_data) in
        subst (λ (x : List ℕ). Padded (length p) (padding_of h s) x) (sym (nothing r none)) (missing (omega (arith, long, n.is_data)))

-- behind the header stand the payload, the padding and the rest
body : (s : List ℕ) (n k : ℕ) → drop 8 s ≡ (take n (drop 8 s) ++ take k (drop (8 + n) s)) ++ drop (8 + n + k) s
body s n k =
    let first : take n (drop 8 s) ++ drop (8 + n) s ≡ drop 8 s = ap (λ (l : List ℕ). take n (drop 8 s) ++ l) (sym (drop-drop n 8 s)) ∙ take-append-drop n (drop 8 s) in
    let second : take k (drop (8 + n) s) ++ drop (8 + n + k) s ≡ drop (8 + n) s = ap (λ (l : List ℕ). take k (drop (8 + n) s) ++ l) (sym (drop-drop k (8 + n) s)) ∙ take-append-drop k (drop (8 + n) s) in
    sym (append_assoc (take n (drop 8 s)) (take k (drop (8 + n) s)) (drop (8 + n + k) s) ∙ ap (λ (l : List ℕ). take n (drop 8 s) ++ l) second ∙ first)

-- THERE AND BACK: bytes that are read as an item are that item laid out, and what stands behind it
pub laid_first : (s : List ℕ) (h : KLV) (p r : List ℕ) → AreBytes s → first_item s ≡ item h p r → Laid s h p r
laid_first s h p r bytes e =
    let w = of_item s h p r e in
    let k : ℕ = aligned (data_len h) - data_len h in
    let up : 8 + data_len h + k ≡ 8 + aligned (data_len h) = omega arith in
    let rest : drop 8 s ≡ (p ++ padding_of h s) ++ r = body s (data_len h) k ∙ rw (up, ← w.payload_is, ← w.rest_is) in
    let front : header_bytes h ++ drop 8 s ≡ s = rw w.header (bytes_back s bytes w.room) in
    record {
      written = rw w.header (header_written s bytes w.room);
      is_data = sym (item_lengths s h p r e).is_data;
      padded = is_padded s h p r e;
      is = sym front ∙ ap (λ (l : List ℕ). header_bytes h ++ l) rest;
    }
