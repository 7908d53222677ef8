-- Views computed by the definitions: the header, the bytes and the texts of small items, and what each is refused with. Assumes nothing.
use Prim.Native.Nat.{ℕ}
use Prim.Native.String.{String}
use mathlib.Core.Path.{◌≡◌, refl}
use mathlib.Core.List.{List, [], ◌∷◌, ◌++◌, map}
use Rattle.foundation.specs.Fuel.{fix, run}
use Rattle.foundation.specs.Text.{key, characters}
use Rattle.klv.specs.Item.{first_item}
use Rattle.klv.specs.OneText.{one_text, type_text}
use Rattle.elements.specs.Types.{width_of}
use Rattle.texts.specs.Utf8.{well_formed, table}
use Rattle.texts.specs.Texts.{chunks, are_well_formed}
use Rattle.std.specs.Prelude.{Result, Ok}
use Rattle.foundation.specs.declared.refusal.Refusal.{Refusal}
use Rattle.foundation.specs.Refusals.{refuse}
use Rattle.value.specs.Value.{kind_of, is_quaternions, letter_plan, plan_of}
use Rattle.items.specs.At.{type_named_at, found_at}
use Rattle.values.specs.At.{klv_of_found}
use Rattle.parts.specs.declared.Part.{Part}
use Rattle.parts.specs.Parts.{placed, bytes_of_found, row_text, text_of_found, cut}

-- an item: key, type, size, repeat below 256, payload
abbrev item_of : String → String → ℕ → ℕ → List ℕ → List ℕ
item_of name letter size repeat payload = characters name ++ (characters letter ++ (size ∷ 0 ∷ repeat ∷ payload))

-- a view without TYPE
abbrev none : ℕ
none = 4294967295

-- a part that is asked for, of some bytes and at a place, and what it is
pub data Case : Type 0 where
  bytes : List ℕ → ℕ → Result Part Refusal → Case
  text : List ℕ → ℕ → ℕ → Result Part Refusal → Case

-- what the definitions come to
abbrev pub comes : Case → Result Part Refusal
comes (bytes s at is) = bytes_of_found (found_at s at none) at
comes (text s at row is) = text_of_found (found_at s at none) at row

abbrev pub says : Case → Result Part Refusal
says (bytes s at is) = is
says (text s at row is) = is

-- five bytes, and behind their padding two texts of two
abbrev five : List ℕ
five = item_of "ABCD" "B" 5 1 (1 ∷ 2 ∷ 3 ∷ 4 ∷ 5 ∷ [])

abbrev several : List ℕ
several = five ++ (0 ∷ 0 ∷ 0 ∷ item_of "UNIT" "c" 2 2 (65 ∷ 0 ∷ 66 ∷ 67 ∷ []))

abbrev pub cases : List Case
cases =
    -- behind the header, without the padding; refused as a value is
    bytes five 0 (placed 8 5)
    ∷ bytes several 16 (placed 24 4)
    ∷ bytes (item_of "ABCD" "B" 5 1 (1 ∷ [])) 0 (refuse 2 0)
    ∷ bytes five 6 (refuse 12 6)
    ∷ bytes (item_of "ABCD" "B" 0 1 []) 0 (refuse 12 0)
    -- one text, in row 0: trailing zeros are not kept, others are
    ∷ text (item_of "STNM" "c" 1 4 (65 ∷ 0 ∷ 66 ∷ 0 ∷ [])) 0 0 (placed 8 3)
    ∷ text (item_of "STNM" "c" 1 4 (65 ∷ 0 ∷ 66 ∷ 0 ∷ [])) 0 1 (refuse 13 0)
    ∷ text (item_of "STNM" "F" 2 2 (65 ∷ 66 ∷ 67 ∷ 68 ∷ [])) 0 0 (placed 8 4)
    -- several: each in its own room, up to its first zero
    ∷ text several 16 0 (placed 24 1)
    ∷ text several 16 1 (placed 26 2)
    ∷ text several 16 2 (refuse 13 16)
    -- no text, and one that is not readable
    ∷ text five 0 0 (refuse 13 0)
    ∷ text (item_of "UNIT" "c" 2 2 (178 ∷ 0 ∷ 65 ∷ 0 ∷ [])) 0 1 (refuse 7 0)
    ∷ []

pub as_defined : map comes cases ≡ map says cases
unfolding fix run found_at type_named_at first_item plan_of is_quaternions width_of one_text type_text letter_plan kind_of well_formed table chunks are_well_formed row_text
as_defined = refl

-- the second text's bytes; a header
pub cut_out : cut (text_of_found (found_at several 16 none) 16 1) several ≡ characters "BC"
unfolding fix run found_at first_item plan_of is_quaternions width_of one_text letter_plan kind_of well_formed table chunks are_well_formed row_text
cut_out = refl

pub header : klv_of_found (found_at several 16 none) ≡ Ok (record { key = key "UNIT"; data_type = 99; size = 2; repeat = 2 })
unfolding found_at first_item
header = refl
