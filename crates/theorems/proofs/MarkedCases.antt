-- THE MARKED CASES of document 01, 1 to 10, and 11 and 12 with them, as one list: each with what is given and what it must come to, by the definitions that
-- the promises are made by, the lent numbers too. Assumes nothing.
use Prim.Native.Nat.{ℕ, ◌*◌}
use Prim.Native.Char.{code}
use Prim.Native.String.{String}
use mathlib.Core.Path.{◌≡◌, refl}
use mathlib.Core.Bool.{Bool, true, false}
use mathlib.Core.List.{List, [], ◌∷◌, ◌++◌, map, flat_map}
use lib.IntN.{pos}
use lib.ListN.{length, drop}
use lib.Ieee.{Float, binary64, of_int, add, div, lt}
use Rattle.foundation.specs.Fuel.{run, fix}
use Rattle.foundation.specs.Text.{key, characters}
use Rattle.foundation.specs.BigEndian.{bytes_of}
use Rattle.keys.specs.Keys.{tags}
use Rattle.keys.specs.Table.{found}
use Rattle.klv.specs.Item.{first_item}
use Rattle.klv.specs.Level.{items_of}
use Rattle.klv.specs.OneText.{one_text, type_text}
use Rattle.reading.specs.Answer.{lent}
use Rattle.reading.specs.Last.{last_item, last_reading}
use Rattle.reading.specs.Record.{numbers, row_width, no_place}
use Rattle.reading.specs.Walk.{Outcome, role_of, item_outcome, walk, reading_of, room_of}
use Rattle.reading.proofs.Samples.{header, item, holding, round, four, five, row}
use Rattle.std.specs.Prelude.{Option, Some, None, Result, Ok, Err}
use Rattle.foundation.specs.declared.refusal.Refusal.{Refusal}
use Rattle.foundation.specs.Refusals.{refuse}
use Rattle.last_item.specs.declared.Last.{Last}
use Rattle.last_item.specs.LastItem as last
use Rattle.walk.specs.declared.Metadata.{Metadata}
use Rattle.walk.specs.Metadata.{told}
use Rattle.walk.proofs.Passes.{counted}
use Rattle.fixed.specs.Fixed.{q31_32}
use Rattle.elements.specs.declared.Element.{Element}
use Rattle.elements.specs.declared.Element.TheVariants.{Unsigned, Double}
use Rattle.elements.specs.Types.{width_of}
use Rattle.elements.specs.Element.{element_of, element_at}
use Rattle.foundation.specs.Digits.{worth_of}
use Rattle.custom_type.specs.Number.{readable, without_plus}
use Rattle.custom_type.specs.Expansion.{copied, step, gone_through, expanded}
use Rattle.dates.specs.Calendar.{milliseconds_of, possible_day, possible_time, days_of_month, days_of_months, days_of_year, days_of_years}
use Rattle.dates.specs.Fields.{day_of, time_of, year, unsigned}
use Rattle.dates.specs.Date.{date_of}
use Rattle.value.specs.Value.{kind_of, is_quaternions, letter_plan, plan_of}
use Rattle.items.specs.At.{found_at}
use Rattle.values.specs.At.{element_of_found}
use Rattle.axes.specs.declared.Axes.{Axes}
use Rattle.axes.specs.declared.Orientations.{Orientations}
use Rattle.axes.specs.Matrix.{one, minus_one, nought, three_ascii, orientations_of, entry_of, matrix_of}
use Rattle.axes.specs.Back.{beyond, lettered, orientation_of}

-- what a case comes to
pub data Coming : Type 0 where
  reading : Result Metadata Refusal → List ℕ → Coming  -- how many rows and headers, or a refusal, and the lent numbers
  last_item-of : Result (Option Last) Refusal → Coming
  text : List ℕ → Coming
  element : Result Element Refusal → Coming
  matrix : List (List Float) → Coming
  axes : Result Axes Refusal → Coming

pub data Case : Type 0 where
  walks : List ℕ → Bool → Result Metadata Refusal → List (List ℕ) → Case  -- a payload, whether the caller's group is forced, what is told, and the rows that are written
  chains : List ℕ → Result (Option Last) Refusal → Case  -- a payload, and its last item
  expands : String → String → Case  -- a TYPE text, and what it is written out to
  reads : List ℕ → Result Element Refusal → Case  -- an item, and its first element
  turns : String → String → List (List Float) → Case  -- the texts of ORIN and ORIO, and their matrix
  names : List (List Float) → Axes → Case  -- a matrix, and the axes that it names

-- the matrix of ORIN and ORIO, or their refusal
abbrev of_texts : Result Orientations Refusal → Coming
of_texts (Ok both) = matrix (matrix_of both.orin both.orio)
of_texts (Err r) = axes (Err r)

-- the numbers that are lent, which have room for one row
abbrev old : List ℕ
old = 101 ∷ 102 ∷ 103 ∷ 104 ∷ 105 ∷ 106 ∷ 107 ∷ 108 ∷ 109 ∷ 110 ∷ []

abbrev reads_to : Bool → List ℕ → Outcome
reads_to forced payload = reading_of forced payload (room_of (length old))

-- rows one behind the other
abbrev flat : List (List ℕ) → List ℕ
flat [] = []
flat (row ∷ rows) = row ++ flat rows

-- what the definitions come to
abbrev pub comes : Case → Coming
comes (walks payload forced said written) = reading (told (reads_to forced payload)) (lent (reads_to forced payload) old)
comes (chains payload said) = last_item-of (last.told (last_reading payload))
comes (expands given said) = text (expanded (characters given))
comes (reads item said) = element (element_of_found (found_at item 0 4294967295) 0 0 0)
comes (turns orin orio said) = of_texts (orientations_of (characters orin) (characters orio))
comes (names given said) = axes (orientation_of given)

-- what document 01 says
abbrev pub says : Case → Coming
says (walks payload forced said written) = reading said (flat written ++ drop (length written * row_width) old)
says (chains payload said) = last_item-of said
says (expands given said) = text (characters said)
says (reads item said) = element said
says (turns orin orio said) = matrix said
says (names given said) = axes (Ok said)

-- ---- what is given

-- case 12's payload, as document 01 gives it
abbrev twelve : List ℕ
twelve = bytes_of 28 0x5354524d_00_01_0014_5343414c_73_02_0001_00010000_4759524f_73_06_0000

abbrev three : ℕ → ℕ → ℕ → Axes
three a b c = record { first = a; second = b; third = c }

-- 0 -1 0 / 1 0 0 / 0 0 1
abbrev turned : List (List Float)
turned = (nought ∷ minus_one ∷ nought ∷ []) ∷ (one ∷ nought ∷ nought ∷ []) ∷ (nought ∷ nought ∷ one ∷ []) ∷ []

-- an item of key ABCD and one sample
abbrev single : String → ℕ → List ℕ → List ℕ
single letter size bytes = characters "ABCD" ++ (characters letter ++ (size ∷ 0 ∷ 1 ∷ bytes))

-- ---- the list

abbrev pub cases : List Case
cases =
    -- 1
    walks [] false (counted 0 0) []
    ∷ chains [] (Ok None)
    -- 2
    ∷ walks (five ++ 6 ∷ 7 ∷ []) false (counted 0 0) []
    ∷ chains (five ++ 6 ∷ 7 ∷ []) (refuse 3 0)
    -- 3
    ∷ walks (item "ABCD" (code "B") 5 1 five) false (counted 1 1) (row 0 0 0 0 (key "ABCD") 0x42_05_0001 no_place 0 ∷ [])
    -- 4
    ∷ walks (item "ABCD" (code "B") 6 1 five) false (refuse 2 0) []
    -- 5
    ∷ walks (item "GYRO" (code "s") 6 0 []) false (counted 0 1) []
    ∷ chains (item "GYRO" (code "s") 6 0 []) (Ok (Some (record { place = 0; klv = header "GYRO" (code "s") 6 0 })))
    -- 6
    ∷ walks (holding "STRM" four) false (refuse 3 0) []
    ∷ walks (holding "STRM" four) true (counted 0 1) []
    -- 7
    ∷ expands "f[3]" "fff"
    ∷ expands "f[0]" "f"
    ∷ expands "f[+5]" "fffff"
    ∷ expands "[3]f" "f"
    ∷ expands "f[-2]" "f"
    ∷ expands "f[3[4]" "ffffffffffffffffffffffffffffffffff"
    ∷ expands "Lff[2" "Lff"
    ∷ expands "f[18446744073709551616]" "f"
    -- 8: parts 0 and 4294967295
    ∷ reads (single "Q" 8 (bytes_of 8 0x0000_0000_ffff_ffff)) (Ok (Double (of_int binary64 (pos 1))))
    -- 9
    ∷ reads (single "U" 16 (characters "240229120000.000")) (Ok (Unsigned 1709208000000))
    ∷ reads (single "U" 16 (characters "230229120000.000")) (Ok (Unsigned 0))
    -- 10
    ∷ turns "YxZ" "XYZ" turned
    ∷ names turned (three (code "y") (code "X") (code "Z"))
    -- 11
    ∷ walks (round 16 (item "GYRO" (code "B") 1 1 (7 ∷ []))) false (counted 1 17) (row 128 1 (key "GYRO") 1 (key "GYRO") 0x42_01_0001 no_place 16 ∷ [])
    ∷ walks (round 17 (item "GYRO" (code "B") 1 1 (7 ∷ []))) false (refuse 4 0) []
    -- 12
    ∷ walks twelve false (counted 1 3) (row 8 1 (key "GYRO") 4 (key "SCAL") 0x73_02_0001 no_place 1 ∷ [])
    ∷ []

pub marked_cases : map comes cases ≡ map says cases
unfolding fix run found tags first_item items_of one_text type_text last_item last_reading numbers role_of item_outcome walk reading_of flat_map expanded gone_through step copied readable without_plus found_at plan_of is_quaternions width_of kind_of letter_plan element_at element_of q31_32 add div of_int date_of day_of time_of year unsigned worth_of milliseconds_of possible_day possible_time days_of_month days_of_months days_of_year days_of_years entry_of beyond lettered lt orientations_of three_ascii
marked_cases = refl
