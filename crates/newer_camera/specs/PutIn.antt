-- New items put into a payload: a relation between the bytes before and the bytes after. Demand 3: "Put new items in front of items the walk
-- reaches, at any depth: each whole, padded to four bytes, no container, not keyed TYPE, enclosing lengths written to match, each a product
-- that a size byte and a 16-bit repeat can write (262,148 is none)." Payloads and paddings are lists of any numbers here: a camera's are bytes, which only
-- narrows what is said. Assumes nothing: these are definitions.
use Rattle.std.specs.Prelude.{ℕ, ◌+◌, ◌≤◌, ◌≡◌, ◌≢◌, List, ◌++◌, length}
use Rattle.foundation.specs.Text.{key}
use Rattle.klv.specs.declared.KLV.{KLV}
use Rattle.klv.specs.Item.{header_length, data_len, aligned, Written, laid_out, Padded}

-- a header for a payload: "a product that a size byte and a 16-bit repeat can write", and the payload is as long
pub record Fits (h : KLV) (payload : List ℕ) : Type 0 where
  pub written : Written h
  pub is_long : data_len h ≡ length payload

-- A NEW ITEM: "each whole, padded to four bytes, no container, not keyed TYPE"; its padding may be any bytes
pub record IsNew (h : KLV) (payload padding : List ℕ) : Type 0 where
  pub whole : Fits h payload
  pub padded : length payload + length padding ≡ aligned (length payload)
  pub no_container : h.data_type ≢ 0
  pub not_type : h.key ≢ key "TYPE"

-- an old item, with what stands behind it in its level: the padding of the last one may be missing
pub record IsOld (h : KLV) (payload padding rest : List ℕ) : Type 0 where
  pub whole : Fits h payload
  pub padded : Padded (length payload) padding rest

-- an old container's header and padding, and those for what its payload has become: "enclosing lengths written to match", by any size and repeat;
-- the padding is as long as it was, for the payload grows by whole fours, and may be other bytes
pub record Matches (h g : KLV) (grown padding cushion : List ℕ) : Type 0 where
  pub container : h.data_type ≡ 0
  pub still_container : g.data_type ≡ 0
  pub same_key : g.key ≡ h.key
  pub whole : Fits g grown
  pub padded_alike : length cushion ≡ length padding

-- an item that the walk reaches stands first in what remains of a level (document 01, Items and the walk: "While 8 bytes or more remain, read an item")
abbrev pub Reached : List ℕ → Type 0
Reached s = header_length ≤ length s

-- PUT IN: a level from some item on, before and after; the outermost level is the payload
pub data PutIn : List ℕ → List ℕ → Type 0 where
  -- nothing more
  nothing : {s : List ℕ} → PutIn s s
  -- a new item "in front of items the walk reaches"
  new : {h : KLV} {payload padding s t : List ℕ} → IsNew h payload padding → Reached s → PutIn s t → PutIn s (laid_out h payload padding ++ t)
  -- an old item as it was, and more behind it
  behind : {h : KLV} {payload padding s t : List ℕ} → IsOld h payload padding s → PutIn s t
      → PutIn (laid_out h payload padding ++ s) (laid_out h payload padding ++ t)
  -- an old container with more inside it, so "at any depth", and more behind it
  inside : {h g : KLV} {payload grown padding cushion s t : List ℕ} → IsOld h payload padding s → Matches h g grown padding cushion → PutIn payload grown → PutIn s t
      → PutIn (laid_out h payload padding ++ s) (laid_out g grown cushion ++ t)
