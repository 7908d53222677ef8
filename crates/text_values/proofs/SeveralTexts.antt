-- The answers of several texts. Assumes nothing.
use Prim.Native.Nat.{ℕ, ◌+◌, ◌-◌, ◌*◌, ◌<◌, ◌≤◌}
use Prim.Native.Char.{code}
use mathlib.Core.Path.{◌≡◌, sym, ap, ◌∙◌}
use mathlib.Core.List.{List, [], ◌∷◌}
use native.Mathlib.Nat.{mul-one}
use native.Mathlib.Omega.{arith}
use borrow.Author.Tests.{le-leb}
use lib.ListN.{length, take, drop, get_or, length-take, length-drop, drop_of_length-le}
use lib.Seq.{take_all, take-nil, drop-cons, get_or-take, get_or-drop}
use Rattle.foundation.specs.BigEndian.{big_endian}
use Rattle.klv.specs.declared.KLV.{KLV}
use Rattle.elements.specs.Types.{width_of}
use Rattle.elements.specs.Element.{element_of, element_at}
use Rattle.texts.specs.Kept.{up_to_zero}
use Rattle.texts.proofs.Kept.{up_to_zero_front, up_to_zero_length}
use Rattle.value.specs.Value.{text_of, placed, room}

-- a text has room for size bytes
pub kept_most : (h : KLV) (payload : List ℕ) (row : ℕ) → length (text_of h payload row) ≤ h.size
kept_most h payload row =
    let all = up_to_zero_length (take h.size (drop (row * h.size) payload)) in
    let most : length (take h.size (drop (row * h.size) payload)) ≤ h.size = simp length-take (omega arith) in
    omega arith

-- ---- where a text stands
module _ (h : KLV) (payload : List ℕ) (row start size : ℕ) (is-start : start ≡ row * h.size) (is-size : size ≡ h.size) where
  abbrev its : List ℕ
  its = take h.size (drop (row * h.size) payload)

  -- past the end
  pub room_none : length payload < start → [] ≡ its
  room_none l =
      let k : length payload ≤ row * h.size = omega arith in
      sym (ap (take h.size) (drop_of_length-le payload {i = row * h.size} k) ∙ take-nil {A = ℕ} h.size)

  -- cut short by the end
  pub room_rest : length payload - start < size → take (length payload - start) (drop start payload) ≡ its
  room_rest l =
      let rest = drop start payload in
      let all : take (length payload - start) rest ≡ rest = take_all (length payload - start) rest (simp length-drop (omega arith)) in
      let most : take size rest ≡ rest = take_all size rest (simp length-drop (omega arith)) in
      all ∙ sym most ∙ (λ i. take (is-size i) (drop (is-start i) payload))

  -- whole
  pub room_whole : take (start + size - start) (drop start payload) ≡ its
  room_whole =
      let cut : start + size - start ≡ h.size = omega arith in
      λ i. take (cut i) (drop (is-start i) payload)

-- ---- its bytes
byte_at : (s : List ℕ) (k : ℕ) → k < length s → element_at s k (code "B") ≡ element_of (code "B") (big_endian (get_or s k 0 ∷ []))
unfolding element_at width_of
byte_at s k l =
    let there = le-leb (k + 1) (length s) (omega arith) in
    let own : take 1 (drop k s) ≡ get_or s k 0 ∷ [] = ap (take 1) (drop-cons s k 0 l) in
    rw (there, own)

-- are bytes of the payload
pub text_byte : (h : KLV) (payload : List ℕ) (row k : ℕ) → k < length (text_of h payload row)
    → element_at (text_of h payload row) k (code "B") ≡ element_at payload (row * h.size + k) (code "B")
text_byte h payload row k l =
    let start = row * h.size in
    let room = take h.size (drop start payload) in
    let m = length (up_to_zero room) in
    let most : m ≤ h.size = kept_most h payload row in
    let shorter : m ≤ length room = up_to_zero_length room in
    let within : length room ≤ length payload - start = simp (length-take, length-drop) (omega arith) in
    let same : get_or (up_to_zero room) k 0 ≡ get_or payload (start + k) 0 =
    ap (λ (t : List ℕ). get_or t k 0) (sym (up_to_zero_front room))
    ∙ get_or-take m room k 0 l
    ∙ get_or-take h.size (drop start payload) k 0 (omega arith)
    ∙ get_or-drop start payload k 0 in
    byte_at (text_of h payload row) k l
    ∙ ap (λ (b : ℕ). element_of (code "B") (big_endian (b ∷ []))) same
    ∙ sym (byte_at payload (start + k) (omega arith))

-- are the elements of its row
pub text_element : (h : KLV) (payload : List ℕ) (row column : ℕ) → column < length (text_of h payload row)
    → element_at (text_of h payload row) column (code "B") ≡ placed (room h) payload row column
unfolding width_of
text_element h payload row column l =
    text_byte h payload row column l ∙ ap (λ (k : ℕ). element_at payload k (code "B")) (sym (mul-one (row * h.size + column)))
