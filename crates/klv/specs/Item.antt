-- An item: a header of eight bytes, its payload and its padding, laid out and read from the front of some bytes.
-- GPMF description, Key, length, value; document 01, Items and the walk. Assumes nothing: these are definitions.
use Rattle.std.specs.Prelude.{ℕ, ◌+◌, ◌-◌, ◌*◌, ◌/◌, ◌≤◌, ◌<◌, ◌^◌, ◌≡◌, List, [], ◌∷◌, ◌++◌, cond, ltb, leb, length, take, drop, get_or}
use Rattle.foundation.specs.BigEndian.{big_endian, bytes_of}
use Rattle.klv.specs.declared.KLV.{KLV}

-- a header's bytes: a key of 4, a type byte, a size byte, a repeat of 2 (document 01, Items and the walk)
abbrev pub header_of : List ℕ → KLV
header_of s = record { key = big_endian (take 4 s); data_type = get_or s 4 0; size = get_or s 5 0; repeat = big_endian (take 2 (drop 6 s)) }

-- the length of the payload, which the padding does not count in
abbrev pub data_len : KLV → ℕ
data_len h = h.size * h.repeat

-- "The 8 of the header" (document 01, Items and the walk)
abbrev pub header_length : ℕ
header_length = 8

-- "the 4 of the padding" (document 01, Items and the walk)
abbrev pub alignment : ℕ
alignment = 4

-- a length with its "padding to a multiple of 4" (document 01, Items and the walk)
abbrev pub aligned : ℕ → ℕ
aligned n = (n + (alignment - 1)) / alignment * alignment

-- what stands first in some bytes
pub data First : Type 0 where
  few : First  -- fewer than the 8 bytes of a header
  past : First  -- a header whose payload runs past the end
  item : KLV → List ℕ → List ℕ → First  -- a header, its payload, and the bytes behind the padding

-- behind a header: its payload must all be there; its padding may be cut short by the end
abbrev pub behind : KLV → List ℕ → First
behind h s = cond (leb (data_len h) (length s)) (item h (take (data_len h) s) (drop (aligned (data_len h)) s)) past

-- what stands first
unfoldable pub first_item : List ℕ → First
first_item s = cond (ltb (length s) header_length) few (behind (header_of s) (drop header_length s))

-- ---- at a place

-- the payload of the item at a place: it stands behind the header
abbrev pub payload_at : List ℕ → ℕ → KLV → List ℕ
payload_at s at h = take (data_len h) (drop (at + header_length) s)

-- the end of that payload
abbrev pub end_at : ℕ → KLV → ℕ
end_at at h = at + header_length + data_len h

-- the place of the next item, behind the padding
abbrev pub next_at : ℕ → KLV → ℕ
next_at at h = at + header_length + aligned (data_len h)

-- ---- laid out

-- a header that eight bytes hold: a size byte, a 16-bit repeat
pub record Written (h : KLV) : Type 0 where
  pub key : h.key < 256 ^ 4
  pub letter : h.data_type < 256
  pub size : h.size < 256
  pub repeat : h.repeat < 256 ^ 2

-- the eight bytes of a header
abbrev pub header_bytes : KLV → List ℕ
header_bytes h = bytes_of 4 h.key ++ (h.data_type ∷ h.size ∷ bytes_of 2 h.repeat)

-- the bytes of an item
abbrev pub laid_out : KLV → List ℕ → List ℕ → List ℕ
laid_out h payload padding = header_bytes h ++ (payload ++ padding)

-- the padding of a payload of n bytes, with s behind it: whole, or missing in part at the end of the level
pub data Padded (n : ℕ) (padding : List ℕ) : List ℕ → Type 0 where
  whole : {s : List ℕ} → n + length padding ≡ aligned n → Padded n padding s
  missing : n + length padding ≤ aligned n → Padded n padding []
