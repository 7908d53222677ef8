-- A line of a listing, and how its columns are shown. Document 01, Cases, 12: "Columns: place, group (`-` for the
-- caller's), key, type, size, repeat, depth, decimal."; "Refused: `refused 3 at 0` alone". Assumes nothing: these are
-- definitions.
use Rattle.std.specs.Prelude.{ℕ, ◌/◌, ◌%◌, ◌^◌, cond, List, [], ◌∷◌, ◌++◌, Result, Ok, Err, eqb}
use Rattle.foundation.specs.declared.refusal.Refusal.{Refusal}
use Rattle.foundation.specs.Text.{characters}
use Rattle.klv.specs.declared.KLV.{KLV}
use Rattle.reading.specs.Record.{Group, callers, named}
use Rattle.rows.specs.declared.Row.{Row}
use Rattle.walk.specs.declared.Metadata.{Metadata}
use Rattle.numerals.specs.Numerals.{decimal}
use Rattle.shown_key.specs.Key.{shown_key}

-- a word with the space behind it
abbrev pub spaced : List ℕ → List ℕ
spaced word = word ++ characters " "

-- a line: its words, with a space between each two of them, and the end of a line behind the last
abbrev pub line_of : List (List ℕ) → List ℕ
line_of [] = characters "\n"
line_of (word ∷ []) = word ++ characters "\n"
line_of (word ∷ (next ∷ words)) = spaced word ++ line_of (next ∷ words)

-- A GROUP: "`-` for the caller's", and any other by the key that names it
abbrev pub shown_group : Group → List ℕ
shown_group callers = characters "-"
shown_group (named k) = shown_key k

-- THE LINE OF A ROW: "place, group (`-` for the caller's), key, type, size, repeat, depth, decimal"
unfoldable pub columns : ℕ → Group → KLV → ℕ → List ℕ
columns place group h depth =
    line_of
    (decimal place ∷ shown_group group ∷ shown_key h.key ∷ decimal h.data_type ∷ decimal h.size ∷ decimal h.repeat ∷ decimal depth ∷ [])

-- ---- of a row in lent numbers

-- a row's group (document 01, Items and the walk: "group kind (0 caller's, 1 by key)"; any other kind is taken by its
-- key)
abbrev pub group_in : Row → Group
group_in r = cond (eqb r.group_kind 0) callers (named r.group_key)

-- a row's header ("type × 2^24 + size × 2^16 + repeat")
abbrev pub header_in : Row → KLV
header_in r = record { key = r.key; data_type = r.shape / 2 ^ 24; size = r.shape / 2 ^ 16 % 256; repeat = r.shape % 2 ^ 16 }

-- the line of a row
unfoldable pub row_line : Row → List ℕ
row_line r = columns r.place (group_in r) (header_in r) r.depth

-- ---- of an answer

-- THE FIRST LINE of an answer: "rows 1 headers 3", or "refused 3 at 0" (document 01, Cases, 12; document 02, No. 10)
unfoldable pub answer_line : Result Metadata Refusal → List ℕ
answer_line (Ok m) = line_of (characters "rows" ∷ decimal m.rows ∷ characters "headers" ∷ decimal m.headers ∷ [])
answer_line (Err r) = line_of (characters "refused" ∷ decimal r.number ∷ characters "at" ∷ decimal r.place ∷ [])
