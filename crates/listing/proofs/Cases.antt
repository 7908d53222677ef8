-- Listings computed by the definitions: document 01's case 12 to the byte, the empty payload, a refused one, and keys
-- that cannot be seen. Assumes nothing.
use Prim.Native.Nat.{ℕ}
use Prim.Native.String.{String}
use mathlib.Core.Path.{◌≡◌, refl}
use mathlib.Core.Bool.{false}
use mathlib.Core.List.{List, [], ◌∷◌, map, flatten}
use Rattle.foundation.specs.BigEndian.{bytes_of}
use Rattle.foundation.specs.Fuel.{run, fix}
use Rattle.foundation.specs.Text.{characters}
use Rattle.klv.specs.Item.{first_item}
use Rattle.klv.specs.Level.{items_of}
use Rattle.klv.specs.OneText.{one_text, type_text}
use Rattle.reading.specs.Last.{last_item}
use Rattle.reading.specs.Walk.{role_of, item_outcome, walk, reading_of}
use Rattle.numerals.specs.Numerals.{decimal}
use Rattle.shown_key.specs.Key.{shown_key}
use Rattle.listing_line.specs.Line.{columns, answer_line}
use Rattle.listing.specs.Listing.{listing}

-- a payload, by how many bytes it has and by its bytes in hex, and its listing
pub data Case : Type 0 where
  lists : ℕ → ℕ → String → Case

-- what the definitions come to, with room for three rows
abbrev pub comes : Case → List ℕ
comes (lists width bytes text) = flatten (listing (reading_of false (bytes_of width bytes) 3))

-- what document 01 says
abbrev pub says : Case → List ℕ
says (lists width bytes text) = characters text

abbrev pub cases : List Case
cases =
    -- 12
    lists 28 0x5354524d_00_01_0014_5343414c_73_02_0001_00010000_4759524f_73_06_0000 "rows 1 headers 3\n8 GYRO SCAL 115 2 1 1\n"
    -- nothing, and seven bytes, which the walk ignores
    ∷ lists 0 0 "rows 0 headers 0\n"
    ∷ lists 7 0x01020304050607 "rows 0 headers 0\n"
    -- "`refused 3 at 0` alone"; and where it is refused behind a row that could be read
    ∷ lists 12 0x5354524d_00_01_0004_01020304 "refused 3 at 0\n"
    ∷ lists 24 0x41424344_42_01_0001_07000000_5354524d_00_01_0004_01020304 "refused 3 at 12\n"
    -- "`-` for the caller's"
    ∷ lists 12 0x41424344_42_04_0001_01020304 "rows 1 headers 1\n0 - ABCD 66 4 1 0\n"
    -- "A key with a byte outside 33 to 126": 33 and 126 are inside, 32 and 127 are not, in a key as in a group's
    ∷ lists 12 0x217e217e_ff_ff_0000_01020304 "rows 0 headers 1\n"
    ∷ lists 10 0x217e217e_ff_01_0002_0102 "rows 1 headers 1\n0 - !~!~ 255 1 2 0\n"
    ∷ lists 10 0x20414243_42_02_0001_0102 "rows 1 headers 1\n0 - x20414243 66 2 1 0\n"
    ∷ lists 18 0x5354524d_00_01_000a_4142437f_42_02_0001_0102 "rows 1 headers 2\n8 x4142437f x4142437f 66 2 1 1\n"
    ∷ []

pub as_document_01_says : map comes cases ≡ map says cases
unfolding fix run flatten first_item items_of one_text type_text last_item role_of item_outcome walk reading_of decimal shown_key columns answer_line
as_document_01_says = refl
