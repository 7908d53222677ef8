-- Which part of what was lent an item's bytes are, and which a text of its value (document 01, Items and the walk, Values). Assumes nothing: these are definitions.
use Rattle.std.specs.Prelude.{ℕ, ◌+◌, ◌*◌, ◌≤◌, ◌≡◌, cond, List, [], eqb, ltb, length, take, drop, Result, Ok, Err}
use Prim.Native.Char.{code}
use Rattle.foundation.specs.Refusals as refusals
use Rattle.foundation.specs.Refusals.{refuse}
use Rattle.foundation.specs.declared.refusal.Refusal.{Refusal}
use Rattle.klv.specs.Item.{header_length}
use Rattle.klv.specs.declared.KLV.{KLV}
use Rattle.klv.specs.Limits.{most_bytes}
use Rattle.klv.specs.OneText.{one_text}
use Rattle.texts.specs.Kept.{kept}
use Rattle.value.specs.Value.{ValueOutcome, readable, refused, text_of, value_of}
use Rattle.items.specs.At.{Found, found, stopped}
use Rattle.parts.specs.declared.Part.{Part}

-- a part, by its start and its length
abbrev pub placed : ℕ → ℕ → Result Part Refusal
placed start n = Ok (record { start = start; length = n })

-- ---- an item

-- its payload stands behind its header of 8 bytes
abbrev pub bytes_of_found : Found → ℕ → Result Part Refusal
bytes_of_found (stopped number place) at = refuse number place
bytes_of_found (found h payload type) at = placed (at + header_length) (length payload)

-- ---- a text of its value

-- the bytes of the payload before the text of a row, and its kept bytes
pub data RowText : Type 0 where
  text : ℕ → List ℕ → RowText
  none : RowText

-- c with repeat 1 or size 1, and F: one text, trailing zeros dropped; other c: one text per size bytes, up to its first zero
unfoldable pub row_text : KLV → List ℕ → ℕ → RowText
row_text h payload row =
    cond (one_text h) (text 0 (kept payload)) (cond (eqb h.data_type (code "c")) (text (row * h.size) (text_of h payload row)) none)

-- a value that is no text is refused with 13
abbrev pub part_of : RowText → ℕ → Result Part Refusal
part_of (text before bytes) at = placed (at + header_length + before) (length bytes)
part_of none at = refuse refusals.outside at

-- the refusals of the value come first; 13 for a row outside
abbrev pub text_in : ℕ → KLV → List ℕ → ValueOutcome → ℕ → Result Part Refusal
text_in at h payload (refused number) row = refuse number at
text_in at h payload (readable v) row = cond (ltb row v.rows) (part_of (row_text h payload row) at) (refuse refusals.outside at)

-- of what was found at a place
abbrev pub text_of_found : Found → ℕ → ℕ → Result Part Refusal
text_of_found (stopped number place) at row = refuse number place
text_of_found (found h payload type) at row = text_in at h payload (value_of h payload type) row

-- ---- what the crate's own functions ask and tell: said of no call from outside

-- a text's part by the columns of its row, which are its kept bytes
abbrev pub text_by : KLV → Result ℕ Refusal → ℕ → ℕ → Result Part Refusal
text_by h (Err r) at row = Err r
text_by h (Ok n) at row = cond (one_text h) (placed (at + header_length) n) (cond (eqb h.data_type (code "c")) (placed (at + header_length + row * h.size) n) (refuse refusals.outside at))

-- the texts before that of a row stand in the payload, which is within the limit
abbrev pub SmallRow : KLV → Result ℕ Refusal → ℕ → Type 0
SmallRow h (Err r) row = Unit {0}
SmallRow h (Ok n) row = h.data_type ≡ code "c" → row * h.size ≤ most_bytes

-- ---- the bytes of a part

-- so many bytes from a start on, or those of them that are there
abbrev pub bytes_from : ℕ → ℕ → List ℕ → List ℕ
bytes_from start n s = take n (drop start s)

-- nothing where it is refused
abbrev pub cut : Result Part Refusal → List ℕ → List ℕ
cut (Err r) s = []
cut (Ok part) s = bytes_from part.start part.length s
