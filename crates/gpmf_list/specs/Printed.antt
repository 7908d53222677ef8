-- What the program prints for the bytes on its standard input. Document 01, What is read: "the programs hold 65,536 (1 if more) and 16,384 row
-- numbers", and Cases, 12. Assumes nothing: these are definitions.
use Rattle.std.specs.Prelude.{ℕ, false, cond, ltb, length}
use mathlib.Core.List.{List, flatten}
use Rattle.reading.specs.Refusal.{too_long}
use Rattle.reading.specs.Walk.{Outcome, refused, reading_of, room_of}
use Rattle.listing.specs.Listing.{listing}

-- "65,536" bytes
abbrev pub held_bytes : ℕ
held_bytes = 65536

-- "16,384 row numbers"
abbrev pub row_numbers : ℕ
row_numbers = 16384

-- what the bytes are read as: "1 if more"
unfoldable pub read_as : List ℕ → Outcome
read_as s = cond (ltb held_bytes (length s)) (refused too_long 0) (reading_of false s (room_of row_numbers))

-- THE TEXT that is printed
abbrev pub printed : List ℕ → List ℕ
printed s = flatten (listing (read_as s))
