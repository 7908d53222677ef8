-- Samples of what is easy to get wrong and of the order of refusals, computed by the definitions of the reading; edits of those definitions are refused by
-- them. Document 01's own cases stand in `theorems`. Assumes nothing.
use Prim.Native.Nat.{ℕ}
use Prim.Native.Char.{code}
use mathlib.Core.Path.{◌≡◌, refl}
use mathlib.Core.Bool.{Bool, true, false}
use mathlib.Core.List.{List, [], ◌∷◌, ◌++◌, map}
use Rattle.foundation.specs.Fuel.{run, fix}
use Rattle.foundation.specs.Text.{key, characters}
use Rattle.keys.specs.Keys.{tags}
use Rattle.keys.specs.Table.{found}
use Rattle.klv.specs.Item.{first_item}
use Rattle.klv.specs.Level.{items_of}
use Rattle.klv.specs.OneText.{one_text, type_text}
use Rattle.reading.specs.Refusal.{left_over, past_end}
use Rattle.reading.specs.Last.{Last, last, stopped, last_item, last_reading}
use Rattle.reading.specs.Record.{numbers, no_place}
use Rattle.reading.specs.Walk.{role_of, outermost, item_outcome, walk, reading_of}
use Rattle.reading.specs.Free.{free, finished, place_of_record, outer_start}
use Rattle.reading.specs.Count.{items_on, items_below, headers_by_items}
use Rattle.reading.specs.Once.{once}
use Rattle.reading.specs.Front.{made_before, records_before}
use Rattle.reading.specs.Answer.{Answer, rows, refusal, answer}
use Rattle.reading.proofs.Samples.{header, item, holding, four, five, round, row}

-- ---- payloads

abbrev seven : List ℕ
seven = five ++ 6 ∷ 7 ∷ []

abbrev padding : List ℕ
padding = 0 ∷ 0 ∷ 0 ∷ []

-- a TYPE that describes one byte, and a `?` item of one byte
abbrev describes : List ℕ
describes = item "TYPE" (code "c") 1 1 (characters "B") ++ padding

abbrev described : List ℕ
described = item "ABCD" (code "?") 1 1 (9 ∷ []) ++ padding

-- ---- samples

pub data Sample : Type 0 where
  reads : List ℕ → Bool → Answer → Sample  -- a payload, whether the caller's group is forced, and what the reading comes to
  chains : List ℕ → Last → Sample  -- a payload, and its last item
  before : List ℕ → ℕ → List (List ℕ) → Sample  -- a payload, a place, and the rows that the walk has made before it
  passes : List ℕ → Bool → Answer → Sample  -- a payload, whether the group is forced, and what one pass comes to with all the room it wants
  counts : List ℕ → ℕ → Sample  -- a payload, and its header count by the formula
  fills : List ℕ → ℕ → ℕ → Sample  -- a payload, a room, and the start of the outermost item with the first record without room

-- what a sample comes to
pub data Result : Type 0 where
  reading : Answer → Result
  chain : Last → Result
  made : List (List ℕ) → Result
  is : ℕ → Result

-- by the definitions, with room for two records
abbrev pub comes : Sample → Result
comes (reads payload forced said) = reading (answer (reading_of forced payload 2))
comes (chains payload said) = chain (last_reading payload)
comes (before payload place said) = made (map numbers (records_before place false payload 2))
comes (passes payload forced said) = let p = (once forced (items_of payload) outermost).made in reading (answer (finished p.rows p.ending))
comes (counts payload said) = is (headers_by_items (items_of payload))
comes (fills payload room said) = is (outer_start (items_of payload) 0 (place_of_record (free false (items_of payload) outermost).rows room))

-- by document 01
abbrev pub says : Sample → Result
says (reads payload forced said) = reading said
says (chains payload said) = chain said
says (before payload place said) = made said
says (passes payload forced said) = reading said
says (counts payload said) = is said
says (fills payload room said) = is said

-- the row of that `?` item
abbrev question : ℕ → ℕ → ℕ → ℕ → ℕ → List ℕ
question place kind group type depth = row place kind group 0 (key "ABCD") 0x3f_01_0001 type depth

abbrev pub samples : List Sample
samples =
    -- padding is stepped over between items, and what is missing after the last one is not asked for
    reads (described ++ item "ABCD" (code "?") 1 1 (9 ∷ [])) false (rows (question 0 0 0 no_place 0 ∷ question 12 0 0 no_place 0 ∷ []) 2)
    ∷ chains (described ++ item "SCAL" (code "B") 1 1 (9 ∷ [])) (last 12 (header "SCAL" (code "B") 1 1))
    -- a TYPE is in force for later items of its level, and not for those before it
    ∷ reads (described ++ describes ++ described) false (rows (question 0 0 0 no_place 0 ∷ question 24 0 0 12 0 ∷ []) 3)
    -- of two the later one is
    ∷ reads (describes ++ describes ++ described) false (rows (question 24 0 0 12 0 ∷ []) 3)
    -- of type F it is one too
    ∷ reads (item "TYPE" (code "F") 1 1 (characters "B") ++ padding ++ described) false (rows (question 12 0 0 0 0 ∷ []) 2)
    -- nor inside a container; behind the container it still is
    ∷ reads (describes ++ holding "STRM" described ++ described) false (rows (question 20 1 (key "ABCD") no_place 1 ∷ question 32 0 0 0 0 ∷ []) 4)
    -- nor after its level
    ∷ reads (holding "STRM" describes ++ described) false (rows (question 20 0 0 no_place 0 ∷ []) 3)
    -- an empty TYPE is skipped, and a TYPE of two texts is a row
    ∷ reads (describes ++ item "TYPE" (code "c") 1 0 [] ++ described) false (rows (question 20 0 0 0 0 ∷ []) 3)
    ∷ reads (item "TYPE" (code "c") 2 2 (characters "BBBB")) false (rows (row 0 0 0 0 (key "TYPE") 0x63_02_0002 no_place 0 ∷ []) 1)
    -- a container keyed TYPE is a container
    ∷ reads (holding "TYPE" described ++ described) false (rows (question 8 1 (key "ABCD") no_place 1 ∷ question 20 0 0 no_place 0 ∷ []) 3)
    -- an item that is no `?` item shows no TYPE
    ∷ reads (describes ++ item "SCAL" (code "B") 1 1 (9 ∷ [])) false (rows (row 12 0 0 4 (key "SCAL") 0x42_01_0001 no_place 0 ∷ []) 2)
    -- the caller's group holds throughout where it is forced, and each header is counted once
    ∷ reads (holding "DEVC" (holding "STRM" described)) true (rows (question 16 0 0 no_place 2 ∷ []) 3)
    ∷ reads (holding "DEVC" (holding "STRM" described)) false (rows (question 16 1 (key "ABCD") no_place 2 ∷ []) 3)
    -- a refusal inside is placed at the outermost item
    ∷ reads (described ++ holding "DEVC" (holding "STRM" four)) false (refusal 3 12)
    ∷ reads (described ++ holding "DEVC" (item "ABCD" (code "B") 6 1 five)) true (refusal 2 12)
    -- and the rows before it are those of the items in front of that item
    ∷ reads (described ++ holding "DEVC" (described ++ holding "STRM" four)) false (refusal 3 12)
    ∷ before (described ++ holding "DEVC" (described ++ holding "STRM" four)) 12 (question 0 0 0 no_place 0 ∷ [])
    -- the chain's is where it stops
    ∷ chains (described ++ seven) (stopped left_over 12)
    ∷ chains (described ++ item "ABCD" (code "B") 6 1 five) (stopped past_end 12)
    -- a third row does not fit, at any depth, and its item comes before the next; an empty item and a TYPE take no room
    ∷ reads (described ++ described ++ described) false (refusal 5 24)
    ∷ reads (described ++ holding "STRM" (described ++ described) ++ item "ABCD" (code "B") 6 1 five) false (refusal 5 12)
    ∷ reads (described ++ described ++ describes ++ item "GYRO" (code "s") 6 0 []) false (rows (question 0 0 0 no_place 0 ∷ question 12 0 0 no_place 0 ∷ []) 4)
    -- the depth comes before the chain, and the chain before what is inside; an empty container is skipped at any depth
    ∷ reads (round 17 four) false (refusal 4 0)
    ∷ reads (holding "DEVC" (holding "STRM" four ++ item "ABCD" (code "B") 6 1 five)) false (refusal 2 0)
    ∷ reads (round 17 []) false (rows [] 17)
    -- a refusal inside waits for the chains of all containers around it, also one for want of room; where the group is forced there is no chain
    ∷ reads (holding "DEVC" (round 17 described ++ padding)) false (refusal 3 0)
    ∷ reads (holding "DEVC" (holding "STRM" (described ++ described ++ described) ++ padding)) false (refusal 3 0)
    ∷ reads (holding "DEVC" (round 17 described ++ padding)) true (refusal 4 0)
    ∷ reads (holding "DEVC" (holding "STRM" (described ++ described ++ described) ++ padding)) true (refusal 5 0)
    -- a container whose chain stops is refused for that, however many rows stand in it
    ∷ reads (described ++ holding "STRM" (described ++ described ++ padding)) false (refusal 3 12)
    -- of two refusals inside the first one counts
    ∷ reads (holding "DEVC" (round 16 described ++ described ++ described ++ described)) false (refusal 4 0)
    -- one header for each item, forced or not: containers, empty items and TYPE items too
    ∷ reads (holding "DEVC" (describes ++ item "GYRO" (code "s") 6 0 [] ++ holding "STRM" described)) false (rows (question 36 1 (key "ABCD") no_place 2 ∷ []) 5)
    ∷ reads (holding "DEVC" (describes ++ item "GYRO" (code "s") 6 0 [] ++ holding "STRM" described)) true (rows (question 36 0 0 no_place 2 ∷ []) 5)
    -- by the formula as many; an empty container has no items
    ∷ counts (holding "DEVC" (describes ++ item "GYRO" (code "s") 6 0 [] ++ holding "STRM" described)) 5
    ∷ counts (describes ++ holding "DEVC" [] ++ described) 3
    -- one pass counts each item where it meets it, names by the last item, and lets the chain come first
    ∷ passes (holding "DEVC" (describes ++ item "GYRO" (code "s") 6 0 [] ++ holding "STRM" described)) false (rows (question 36 1 (key "ABCD") no_place 2 ∷ []) 5)
    ∷ passes (holding "STRM" (described ++ item "GYRO" (code "s") 6 0 [])) false (rows (question 8 1 (key "GYRO") no_place 1 ∷ []) 3)
    ∷ passes (holding "STRM" (described ++ item "GYRO" (code "s") 6 0 [])) true (rows (question 8 0 0 no_place 1 ∷ []) 3)
    ∷ passes (holding "DEVC" (round 17 described ++ padding)) false (refusal 3 0)
    ∷ passes (holding "DEVC" (round 17 described ++ padding)) true (refusal 4 0)
    -- refusal 5 is placed at the outermost item in which the first record without room stands
    ∷ fills (described ++ holding "STRM" (described ++ described) ++ described) 0 0
    ∷ fills (described ++ holding "STRM" (described ++ described) ++ described) 2 12
    ∷ fills (described ++ holding "STRM" (described ++ described) ++ described) 3 44
    ∷ []

pub as_its_rules_say : map comes samples ≡ map says samples
unfolding fix run found tags first_item items_of one_text type_text last_item last_reading numbers role_of item_outcome walk reading_of made_before once free headers_by_items items_on items_below outer_start
as_its_rules_say = refl
