-- Payloads with new items put in, as bytes: each clause of the relation and each placement that demand 3 names, with both readings computed by the
-- definitions. Assumes nothing.
use Prim.Native.Nat.{ℕ, ◌≤◌}
use Prim.Native.Char.{code}
use mathlib.Core.Path.{◌≡◌, refl}
use mathlib.Core.Bool.{true, false}
use mathlib.Core.List.{List, [], ◌∷◌, ◌++◌, map}
use native.Mathlib.Omega.{arith}
use borrow.Author.Tests.{leb-true}
use lib.Dec.{leb}
use lib.ListN.{length, drop}
use Rattle.foundation.specs.BigEndian.{bytes_of}
use Rattle.foundation.specs.Fuel.{run, fix}
use Rattle.foundation.specs.Text.{key}
use Rattle.keys.specs.Keys.{tags}
use Rattle.keys.specs.Table.{found}
use Rattle.klv.specs.declared.KLV.{KLV}
use Rattle.klv.specs.Item.{first_item, whole, missing}
use Rattle.klv.specs.Level.{items_of}
use Rattle.klv.specs.OneText.{one_text, type_text}
use Rattle.reading.specs.Last.{last_item}
use Rattle.reading.specs.Record.{numbers, no_place}
use Rattle.reading.specs.Walk.{role_of, item_outcome, walk, reading_of}
use Rattle.reading.specs.Answer.{Answer, rows, refusal, answer}
use Rattle.reading.proofs.Samples.{header, row}
use Rattle.newer_camera.specs.PutIn.{IsNew, IsOld, Matches, PutIn, nothing, new, behind, inside}
use Rattle.newer_camera.specs.OtherBytes.{OtherBytes, in_nothing, in_new, behind_old, inside_old}

-- ---- items

-- the row of a new item of three bytes
abbrev another : ℕ → ℕ → ℕ → ℕ → List ℕ
another place kind group depth = row place kind group 0 (key "THRE") 0x42_01_0003 no_place depth

-- new items: three bytes and any padding, and one without a payload
abbrev three : KLV
three = header "THRE" (code "B") 1 3

pub is_three : (a b c padding : ℕ) → IsNew three (a ∷ b ∷ c ∷ []) (padding ∷ [])
is_three a b c padding = omega arith

abbrev none : KLV
none = header "NONE" (code "L") 4 0

pub is_none : IsNew none [] []
is_none = omega arith

-- ---- case 12's payload: a STRM with a SCAL, and a GYRO without a payload, which names the group

abbrev pub gyro : List ℕ
gyro = bytes_of 8 0x4759524f_73_06_0000

abbrev pub stream : List ℕ
stream = bytes_of 12 0x5343414c_73_02_0001_00010000 ++ gyro

abbrev pub twelve : List ℕ
twelve = bytes_of 28 0x5354524d_00_01_0014_5343414c_73_02_0001_00010000_4759524f_73_06_0000

-- in front of the first item in the container one of three bytes; in front of the empty last one two in a row, one of them empty
abbrev pub grown_stream : List ℕ
grown_stream = bytes_of 52 0x54485245_42_01_0003_010203ff_5343414c_73_02_0001_00010000_54485245_42_01_0003_04050600_4e4f4e45_4c_04_0000_4759524f_73_06_0000

-- in front of the container one of three bytes; the container's 52 bytes are written as 26 × 2
abbrev pub newer : List ℕ
newer =
    bytes_of 72
    0x54485245_42_01_0003_07080900_5354524d_00_1a_0002_54485245_42_01_0003_010203ff_5343414c_73_02_0001_00010000_54485245_42_01_0003_04050600_4e4f4e45_4c_04_0000_4759524f_73_06_0000

pub is_scale : IsOld (header "SCAL" (code "s") 2 1) (0 ∷ 1 ∷ []) (0 ∷ 0 ∷ []) gyro
is_scale = record { whole = omega arith; padded = whole refl }

pub is_stream : IsOld (header "STRM" 0 1 20) stream [] []
is_stream = record { whole = omega arith; padded = whole refl }

pub matches : Matches (header "STRM" 0 1 20) (header "STRM" 0 26 2) grown_stream [] []
matches = omega arith

-- an item stands there
pub some : (s : List ℕ) → leb 8 (length s) ≡ true → 8 ≤ length s
some s e = leb-true 8 (length s) e

abbrev pub in_stream : PutIn stream grown_stream
in_stream =
    new {s = stream} (is_three 1 2 3 255) (some stream refl)
    (behind is_scale (new {s = gyro} (is_three 4 5 6 0) (some gyro refl) (new {s = gyro} is_none (some gyro refl) nothing)))

abbrev pub in_twelve : PutIn twelve newer
in_twelve = new {s = twelve} (is_three 7 8 9 0) (some twelve refl) (inside is_stream matches in_stream nothing)

-- ---- a GYRO in a STRM in a DEVC, all without their padding; one in front of the STRM, and one in front of the GYRO, whose container's 21 bytes are 3 × 7

abbrev pub lone : List ℕ
lone = bytes_of 9 0x4759524f_42_01_0001_07

abbrev pub grown_lone : List ℕ
grown_lone = bytes_of 21 0x54485245_42_01_0003_04050600_4759524f_42_01_0001_07

abbrev pub nested : List ℕ
nested = bytes_of 25 0x44455643_00_01_0011_5354524d_00_01_0009_4759524f_42_01_0001_07

abbrev pub grown_nested : List ℕ
grown_nested = bytes_of 49 0x44455643_00_01_0029_54485245_42_01_0003_01020300_5354524d_00_03_0007_54485245_42_01_0003_04050600_4759524f_42_01_0001_07

abbrev pub in_nested : PutIn nested grown_nested
in_nested =
    inside {h = header "DEVC" 0 1 17} {g = header "DEVC" 0 1 41} {payload = drop 8 nested} {grown = drop 8 grown_nested} {padding = []} {cushion = []} {s = []}
    (record { whole = omega arith; padded = missing (omega arith) }) (omega arith)
    (new {s = drop 8 nested} (is_three 1 2 3 0) (omega arith)
    (inside {h = header "STRM" 0 1 9} {g = header "STRM" 0 3 7} {payload = lone} {grown = grown_lone} {padding = []} {cushion = []} {s = []}
    (record { whole = omega arith; padded = missing (omega arith) }) (omega arith) (new {s = lone} (is_three 4 5 6 0) (omega arith) nothing) nothing))
    nothing

-- ---- a STRM with padding of its own, and an item behind it; one in front of the GYRO inside, and the STRM's padding written anew

abbrev pub cushioned : List ℕ
cushioned = bytes_of 29 0x5354524d_00_01_0009_4759524f_42_01_0001_07_010203_41424344_42_01_0001_05

abbrev pub grown_cushioned : List ℕ
grown_cushioned = bytes_of 41 0x5354524d_00_01_0015_4e455730_42_01_0001_09000000_4759524f_42_01_0001_07_ff00aa_41424344_42_01_0001_05

-- a new item of one byte, and the STRM round it, with any padding each
abbrev one : KLV
one = header "NEW0" (code "B") 1 1

pub is_one_lem : (a b c d : ℕ) → IsNew one (a ∷ []) (b ∷ c ∷ d ∷ [])
is_one_lem a b c d = omega arith

abbrev grown_inside : ℕ → ℕ → ℕ → ℕ → List ℕ
grown_inside a b c d = bytes_of 8 0x4e455730_42_01_0001 ++ (a ∷ b ∷ c ∷ d ∷ lone)

pub is_cushioned : IsOld (header "STRM" 0 1 9) lone (1 ∷ 2 ∷ 3 ∷ []) (drop 20 cushioned)
is_cushioned = record { whole = omega arith; padded = whole refl }

pub matches_anew : (a b c d x y z : ℕ) → Matches (header "STRM" 0 1 9) (header "STRM" 0 1 21) (grown_inside a b c d) (1 ∷ 2 ∷ 3 ∷ []) (x ∷ y ∷ z ∷ [])
matches_anew a b c d x y z = omega arith

abbrev pub in_cushioned : PutIn cushioned grown_cushioned
in_cushioned = inside is_cushioned (matches_anew 9 0 0 0 0xff 0 0xaa) (new {s = lone} (is_one_lem 9 0 0 0) (some lone refl) nothing) nothing

-- and one more behind the container, in front of the last item
abbrev pub grown_behind : List ℕ
grown_behind = bytes_of 53 0x5354524d_00_01_0015_4e455730_42_01_0001_09000000_4759524f_42_01_0001_07_ff00aa_4e455730_42_01_0001_0a000000_41424344_42_01_0001_05

abbrev pub in_behind : PutIn cushioned grown_behind
in_behind =
    inside is_cushioned (matches_anew 9 0 0 0 0xff 0 0xaa) (new {s = lone} (is_one_lem 9 0 0 0) (some lone refl) nothing)
    (new {s = drop 20 cushioned} (is_one_lem 10 0 0 0) (some (drop 20 cushioned) refl) nothing)

-- ---- a TYPE and a `?` item without its padding; one in front of each

abbrev pub described : List ℕ
described = bytes_of 21 0x54595045_63_01_0001_42000000_41424344_3f_01_0001_09

abbrev pub grown_described : List ℕ
grown_described = bytes_of 45 0x54485245_42_01_0003_010203ff_54595045_63_01_0001_42000000_54485245_42_01_0003_040506ff_41424344_3f_01_0001_09

abbrev pub in_described : PutIn described grown_described
in_described =
    new {s = described} (is_three 1 2 3 255) (omega arith)
    (behind {h = header "TYPE" (code "c") 1 1} {payload = code "B" ∷ []} {padding = 0 ∷ 0 ∷ 0 ∷ []} {s = drop 12 described} (record { whole = omega arith; padded = whole refl })
    (new {s = drop 12 described} (is_three 4 5 6 255) (omega arith) nothing))

-- ---- an empty item, and seven bytes that the walk ignores: in front of the item, and not of those

abbrev pub ignored : List ℕ
ignored = bytes_of 15 0x4759524f_73_06_0000_ffffffffffffff

abbrev pub grown_ignored : List ℕ
grown_ignored = bytes_of 23 0x4e4f4e45_4c_04_0000_4759524f_73_06_0000_ffffffffffffff

abbrev pub in_ignored : PutIn ignored grown_ignored
in_ignored = new {s = ignored} is_none (omega arith) nothing

-- ---- what they are read as

pub record Sample : Type 0 where
  pub before : List ℕ
  pub after : List ℕ
  pub put : PutIn before after
  pub room : ℕ
  pub was : Answer
  pub is : Answer

abbrev pub samples : List Sample
samples =
    record {
      before = twelve;
      after = newer;
      put = in_twelve;
      room = 4;
      was = rows (row 8 1 (key "GYRO") 4 (key "SCAL") 0x73_02_0001 no_place 1 ∷ []) 3;
      is = rows (another 0 0 0 0 ∷ another 20 1 (key "GYRO") 1 ∷ row 32 1 (key "GYRO") 4 (key "SCAL") 0x73_02_0001 no_place 1 ∷ another 44 1 (key "GYRO") 1 ∷ []) 7;
    }
    ∷ record {
      before = nested;
      after = grown_nested;
      put = in_nested;
      room = 3;
      was = rows (row 16 1 (key "GYRO") 1 (key "GYRO") 0x42_01_0001 no_place 2 ∷ []) 3;
      is = rows (another 8 1 (key "STRM") 1 ∷ another 28 1 (key "GYRO") 2 ∷ row 40 1 (key "GYRO") 1 (key "GYRO") 0x42_01_0001 no_place 2 ∷ []) 5;
    }
    ∷ record {
      before = cushioned;
      after = grown_cushioned;
      put = in_cushioned;
      room = 3;
      was = rows (row 8 1 (key "GYRO") 1 (key "GYRO") 0x42_01_0001 no_place 1 ∷ row 20 0 0 0 (key "ABCD") 0x42_01_0001 no_place 0 ∷ []) 3;
      is =
          rows
          (row 8 1 (key "GYRO") 0 (key "NEW0") 0x42_01_0001 no_place 1 ∷ row 20 1 (key "GYRO") 1 (key "GYRO") 0x42_01_0001 no_place 1 ∷ row 32 0 0 0 (key "ABCD") 0x42_01_0001 no_place 0 ∷ [])
          4;
    }
    ∷ record {
      before = cushioned;
      after = grown_behind;
      put = in_behind;
      room = 4;
      was = rows (row 8 1 (key "GYRO") 1 (key "GYRO") 0x42_01_0001 no_place 1 ∷ row 20 0 0 0 (key "ABCD") 0x42_01_0001 no_place 0 ∷ []) 3;
      is =
          rows
          (row 8 1 (key "GYRO") 0 (key "NEW0") 0x42_01_0001 no_place 1
          ∷ row 20 1 (key "GYRO") 1 (key "GYRO") 0x42_01_0001 no_place 1
          ∷ row 32 0 0 0 (key "NEW0") 0x42_01_0001 no_place 0
          ∷ row 44 0 0 0 (key "ABCD") 0x42_01_0001 no_place 0
          ∷ [])
          5;
    }
    ∷ record {
      before = described;
      after = grown_described;
      put = in_described;
      room = 3;
      was = rows (row 12 0 0 0 (key "ABCD") 0x3f_01_0001 0 0 ∷ []) 2;
      is = rows (another 0 0 0 0 ∷ another 24 0 0 0 ∷ row 36 0 0 0 (key "ABCD") 0x3f_01_0001 12 0 ∷ []) 4;
    }
    -- and where the third row does not fit the room
    ∷ record {
      before = described;
      after = grown_described;
      put = in_described;
      room = 2;
      was = rows (row 12 0 0 0 (key "ABCD") 0x3f_01_0001 0 0 ∷ []) 2;
      is = refusal 5 36;
    }
    ∷ record { before = ignored; after = grown_ignored; put = in_ignored; room = 0; was = rows [] 1; is = rows [] 2 }
    ∷ []

pub record AsTheyAre : Type 0 where
  pub old_readings : map (λ (x : Sample). answer (reading_of false x.before x.room)) samples ≡ map (λ (x : Sample). x.was) samples
  pub new_readings : map (λ (x : Sample). answer (reading_of false x.after x.room)) samples ≡ map (λ (x : Sample). x.is) samples

pub as_they_are : AsTheyAre
unfolding fix run found tags first_item items_of one_text type_text last_item numbers role_of item_outcome walk reading_of
as_they_are = record { old_readings = refl; new_readings = refl }

-- ---- other payload bytes in the new items of the first

abbrev other_stream : List ℕ
other_stream = bytes_of 52 0x54485245_42_01_0003_ffff00ee_5343414c_73_02_0001_00010000_54485245_42_01_0003_00000000_4e4f4e45_4c_04_0000_4759524f_73_06_0000

pub other_matches : Matches (header "STRM" 0 1 20) (header "STRM" 0 26 2) other_stream [] []
other_matches = omega arith

pub other_bytes : OtherBytes twelve newer in_twelve (bytes_of 20 0x54485245_42_01_0003_abcdef00_5354524d_00_1a_0002 ++ other_stream)
other_bytes =
    in_new {i = is_three 7 8 9 0} {front = some twelve refl} (is_three 0xab 0xcd 0xef 0)
    (inside_old {i = is_stream} {m = matches} other_matches
    (in_new {i = is_three 1 2 3 255} {front = some stream refl} (is_three 0xff 0xff 0 0xee)
    (behind_old {i = is_scale} (in_new {i = is_three 4 5 6 0} {front = some gyro refl} (is_three 0 0 0 0) (in_new {i = is_none} {front = some gyro refl} is_none in_nothing))))
    in_nothing)

-- ---- and of the one with padding of its own, which is another once more

pub other_padding : OtherBytes cushioned grown_cushioned in_cushioned (bytes_of 41 0x5354524d_00_01_0015_4e455730_42_01_0001_ff010203_4759524f_42_01_0001_07_abcdef_41424344_42_01_0001_05)
other_padding =
    inside_old {i = is_cushioned} {m = matches_anew 9 0 0 0 0xff 0 0xaa} (matches_anew 0xff 1 2 3 0xab 0xcd 0xef)
    (in_new {i = is_one_lem 9 0 0 0} {front = some lone refl} (is_one_lem 0xff 1 2 3) in_nothing) in_nothing
