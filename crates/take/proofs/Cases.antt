-- What is printed of packets, computed by the definitions: document 01's case 12 as a packet, refused ones with their fronts; and one
-- over what is held beside it. Assumes nothing.
use Prim.Native.Nat.{ℕ}
use Prim.Native.String.{String}
use mathlib.Core.Path.{◌≡◌, refl}
use mathlib.Core.Bool.{Bool, true, false}
use mathlib.Core.List.{List, [], ◌∷◌, map, flatten}
use lib.ListN.{length}
use Rattle.foundation.specs.BigEndian.{bytes_of}
use Rattle.foundation.specs.Fuel.{run, fix}
use Rattle.foundation.specs.Text.{characters}
use Rattle.klv.specs.Item.{first_item}
use Rattle.klv.specs.Level.{items_of}
use Rattle.klv.specs.OneText.{one_text, type_text}
use Rattle.reading.specs.Last.{last_item}
use Rattle.reading.specs.Refusal.{too_long}
use Rattle.reading.specs.Walk.{refused, role_of, item_outcome, walk, reading_of}
use Rattle.numerals.specs.Numerals.{decimal}
use Rattle.shown_key.specs.Key.{shown_key}
use Rattle.listing_line.specs.Line.{columns, answer_line}
use Rattle.take_lines.specs.Lines.{long_packet}
use Rattle.take.specs.Take.{packet}

-- a packet, by whether only accepted ones are printed, its number, its start, the room for rows, how many bytes it has, and its bytes in hex
abbrev taken : Bool → ℕ → ℕ → ℕ → ℕ → ℕ → List ℕ
taken whole number place room width bytes = flatten (packet whole number place (bytes_of width bytes) room (reading_of false (bytes_of width bytes) room))

abbrev case12 : ℕ
case12 = 0x5354524d_00_01_0014_5343414c_73_02_0001_00010000_4759524f_73_06_0000

-- a row, and a container of four bytes, which the chain refuses
abbrev row_and_rest : ℕ
row_and_rest = 0x41424344_42_01_0001_07000000_5354524d_00_01_0004_01020304

-- two rows
abbrev two_rows : ℕ
two_rows = 0x41424344_42_04_0001_01020304_45464748_42_04_0001_01020304

abbrev prints : List (List ℕ × String)
prints =
    (taken false 1 8 2048 28 case12, "packet 1 at 8 bytes 28\nrows 1 headers 3\n8 GYRO SCAL 115 2 1 1\n")
    ∷ (taken true 1 8 2048 28 case12, "packet 1 at 8 bytes 28\nrows 1 headers 3\n8 GYRO SCAL 115 2 1 1\n")
    ∷ (taken false 7 16 2048 0 0, "packet 7 at 16 bytes 0\nrows 0 headers 0\n")
    -- refused: its front, and nothing where only accepted ones are printed
    ∷ (taken false 2 44 2048 24 row_and_rest, "packet 2 at 44 bytes 24\nrefused 3 at 12\nfront rows 1 headers 1\n0 - ABCD 66 1 1 0\n")
    ∷ (taken true 2 44 2048 24 row_and_rest, "")
    -- for want of room: the front has the row that there was room for, or none
    ∷ (taken false 3 8 1 24 two_rows, "packet 3 at 8 bytes 24\nrefused 5 at 12\nfront rows 1 headers 1\n0 - ABCD 66 4 1 0\n")
    ∷ (taken false 3 8 0 24 two_rows, "packet 3 at 8 bytes 24\nrefused 5 at 0\nfront rows 0 headers 0\n")
    ∷ []

pub are_printed : map (λ (c : List ℕ × String). c.0) prints ≡ map (λ (c : List ℕ × String). characters c.1) prints
unfolding fix run flatten first_item items_of one_text type_text last_item role_of item_outcome walk reading_of decimal shown_key columns answer_line
are_printed = refl

-- a packet over what is held is printed as any that is refused with 1 at 0
pub long_as_refused : (whole : Bool) (number place room : ℕ) (s : List ℕ) → long_packet whole number place (length s) ≡ packet whole number place s room (refused too_long 0)
unfolding fix run first_item items_of walk reading_of
long_as_refused true number place room s = refl
long_as_refused false number place room s = refl
