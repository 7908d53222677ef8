-- The listing of a payload, line by line. Document 01, Cases, 12: "The listing program .. prints exactly:" two lines,
-- of which the second is "8 GYRO SCAL 115 2 1 1"; document 02, No. 10: "Case 12 now prints `headers 3`". And "Refused:
-- `refused 3 at 0` alone". Assumes nothing: these are definitions.
use Rattle.std.specs.Prelude.{ℕ, ◌+◌, ◌*◌, ◌≤◌, ◌≡◌, cond, ltb, length, Option, Some, None}
use mathlib.Core.List.{List, [], ◌∷◌, map, flatten}
use Rattle.foundation.specs.Refusals.{refuse}
use Rattle.reading.specs.Refusal.{number, no_room_left}
use Rattle.reading.specs.Record.{Record}
use Rattle.reading.specs.Walk.{Outcome, accepted, refused, room_of}
use Rattle.reading.specs.Answer.{lent}
use Rattle.rows.specs.declared.Row.{Row}
use Rattle.rows.specs.Lookup.{rows_of}
use Rattle.walk.specs.Metadata.{told}
use Rattle.listing_line.specs.Line.{columns, row_line, answer_line}
use Rattle.listing_line.specs.Lines.{laid_lines, behind_lines, longest_line}

-- ---- of a reading

-- the line of a record
abbrev pub record_line : Record → List ℕ
record_line r = columns r.place r.content.group r.content.header r.content.depth

-- the lines below the first: one for each record, and none where the payload is refused
abbrev pub record_lines : Outcome → List (List ℕ)
record_lines (accepted rs headers) = map record_line rs
record_lines (refused why place) = []

-- THE LISTING of what a payload is read as
abbrev pub listing : Outcome → List (List ℕ)
listing outcome = answer_line (told outcome) ∷ record_lines outcome

-- ---- of rows in lent numbers

-- the line of what stands at a row's index, where there is one
abbrev pub line_at : Option Row → List (List ℕ)
line_at (Some r) = row_line r ∷ []
line_at None = []

-- THE LINES of the first so many rows; the refusal alone where lent numbers have no room for so many (document 01,
-- Refusal numbers, 5: "a row, written or claimed, does not fit the room")
abbrev pub row_lines : List ℕ → ℕ → List (List ℕ)
row_lines s count = cond (ltb (room_of (length s)) count) (answer_line (refuse (number no_room_left) 0) ∷ []) (map row_line (rows_of count s))

-- ---- laid into a lent buffer

-- what listing a payload promises: what laying its lines does, and the lent numbers, which are as the reading leaves
-- them
pub record Lists (outcome : Outcome) (old out : List ℕ) (at answer : ℕ) (new after : List ℕ) : Type 0 where
  pub is : answer ≡ behind_lines (listing outcome) out at
  pub leaves : after ≡ laid_lines (listing outcome) out at
  pub rows : new ≡ lent outcome old
  pub short : length (flatten (listing outcome)) ≤ (1 + room_of (length old)) * longest_line
