-- What the definitions come to on small payloads, computed: kinds, signs, the order of refusals and their places. Assumes nothing.
use Prim.Native.Nat.{ℕ, ◌<◌}
use Prim.Native.String.{String}
use mathlib.Core.Path.{◌≡◌, refl}
use mathlib.Core.List.{List, [], ◌∷◌, ◌++◌}
use borrow.Author.Tests.{lt-ltb}
use lib.IntN.{negsuc}
use lib.ListN.{length}
use Rattle.foundation.specs.Text.{characters}
use Rattle.klv.specs.Item.{first_item}
use Rattle.klv.specs.OneText.{one_text, type_text}
use Rattle.elements.specs.declared.Element.TheVariants.{Signed, Unsigned}
use Rattle.elements.specs.Types.{width_of}
use Rattle.elements.specs.Element.{element_of, element_at}
use Rattle.texts.specs.Utf8.{well_formed, table}
use Rattle.foundation.specs.Fuel.{fix, run}
use Rattle.texts.specs.Texts.{chunks, are_well_formed}
use Rattle.dates.specs.Date.{date_of}
use Rattle.custom_type.specs.Expansion.{expanded, gone_through, step, copied}
use Rattle.foundation.specs.Digits.{worth_of}
use Rattle.custom_type.specs.Number.{readable, without_plus}
use Rattle.value.specs.declared.Kind.TheVariants as kind
use Rattle.std.specs.Prelude.{Result, Ok}
use Rattle.foundation.specs.declared.refusal.Refusal.{Refusal}
use Rattle.foundation.specs.Refusals.{refuse}
use Rattle.elements.specs.declared.Element.{Element}
use Rattle.value.specs.declared.Shape.{Shape}
use Rattle.value.specs.Value.{kind_of, is_quaternions, column_letters, widths_of, letter_plan, plan_of}
use Rattle.items.specs.At.{type_named_at, found_at}
use Rattle.values.specs.At.{element_of_found, shape_of_found}

-- an item: key, type, size, repeat below 256, payload
abbrev item_of : String → String → ℕ → ℕ → List ℕ → List ℕ
item_of name letter size repeat payload = characters name ++ (characters letter ++ (size ∷ 0 ∷ repeat ∷ payload))

abbrev none : ℕ
none = 4294967295

abbrev shape_at : List ℕ → ℕ → ℕ → Result Shape Refusal
shape_at s at type = shape_of_found (found_at s at type) at

abbrev element_at_place : List ℕ → ℕ → ℕ → ℕ → ℕ → Result Element Refusal
element_at_place s at type row column = element_of_found (found_at s at type) at row column

abbrev is_shape : Rattle.value.specs.declared.Kind.Kind → ℕ → ℕ → Result Shape Refusal
is_shape k rows columns = Ok (record { kind = k; rows = rows; columns = columns })

-- ---- kinds

-- a size below the width: rows of no columns
pub nested_none : shape_at (item_of "ABCD" "s" 1 3 (1 ∷ 2 ∷ 3 ∷ [])) 0 none ≡ is_shape kind.Nested 3 0
unfolding found_at first_item plan_of is_quaternions width_of kind_of
nested_none = refl

-- one, a list, three and four of a repeat; the letter of CORI decides
pub kinds : (shape_at (item_of "ABCD" "s" 2 1 (1 ∷ 2 ∷ [])) 0 none ≡ is_shape kind.Single 1 1)
    × (shape_at (item_of "ABCD" "s" 2 2 (1 ∷ 2 ∷ 3 ∷ 4 ∷ [])) 0 none ≡ is_shape kind.List 2 1)
    × (shape_at (item_of "ABCD" "B" 3 1 (1 ∷ 2 ∷ 3 ∷ [])) 0 none ≡ is_shape kind.Vector 1 3)
    × (shape_at (item_of "ABCD" "B" 4 1 (1 ∷ 2 ∷ 3 ∷ 4 ∷ [])) 0 none ≡ is_shape kind.TimedVector 1 4)
    × (shape_at (item_of "CORI" "S" 8 1 (1 ∷ 2 ∷ 3 ∷ 4 ∷ 5 ∷ 6 ∷ 7 ∷ 8 ∷ [])) 0 none ≡ is_shape kind.TimedVector 1 4)
    × (shape_at (item_of "IORI" "s" 8 1 (1 ∷ 2 ∷ 3 ∷ 4 ∷ 5 ∷ 6 ∷ 7 ∷ 8 ∷ [])) 0 none ≡ is_shape kind.Quaternions 1 4)
unfolding found_at first_item plan_of is_quaternions width_of kind_of
kinds = (refl, refl, refl, refl, refl, refl)

-- a type byte 0 is no value: unknown, and its elements are refused with 13 at the place asked
pub unknown_container : element_at_place (item_of "ABCD" "\0" 1 1 (7 ∷ [])) 0 none 0 0 ≡ refuse 13 0
unfolding found_at first_item plan_of is_quaternions width_of one_text letter_plan
unknown_container = refl

-- ---- elements

-- the first bit counts the other way; trailing zeros of a text are no columns; a text of several ends at its first zero
pub elements : (element_at_place (item_of "ABCD" "b" 1 1 (255 ∷ [])) 0 none 0 0 ≡ Ok (Signed (negsuc 0)))
    × (element_at_place (item_of "ABCD" "s" 2 1 (128 ∷ 0 ∷ [])) 0 none 0 0 ≡ Ok (Signed (negsuc 32767)))
    × (element_at_place (item_of "ABCD" "L" 4 1 (0 ∷ 0 ∷ 16 ∷ 1 ∷ [])) 0 none 0 0 ≡ Ok (Unsigned 4097))
    × (element_at_place (item_of "ABCD" "c" 1 3 (65 ∷ 66 ∷ 0 ∷ [])) 0 none 0 1 ≡ Ok (Unsigned 66))
    × (element_at_place (item_of "ABCD" "c" 1 3 (65 ∷ 66 ∷ 0 ∷ [])) 0 none 0 2 ≡ refuse 13 0)
unfolding found_at first_item plan_of is_quaternions width_of one_text kind_of element_at element_of
elements = (refl, refl, refl, refl, refl)

-- ---- structures, and the order of refusals

-- a TYPE behind which a `?` item stands at place 12
abbrev typed : String → List ℕ → List ℕ → List ℕ
typed text padding asked = item_of "TYPE" "c" 1 (length (characters text)) (characters text) ++ (padding ++ asked)

pub structures : (shape_at (typed "Lb" (0 ∷ 0 ∷ []) (item_of "ABCD" "?" 5 1 (0 ∷ 0 ∷ 0 ∷ 9 ∷ 255 ∷ []))) 12 0 ≡ is_shape kind.Structures 1 2)
    × (element_at_place (typed "Lb" (0 ∷ 0 ∷ []) (item_of "ABCD" "?" 5 1 (0 ∷ 0 ∷ 0 ∷ 9 ∷ 255 ∷ []))) 12 0 0 1 ≡ Ok (Signed (negsuc 0)))
    × (element_at_place (typed "Lb" (0 ∷ 0 ∷ []) (item_of "ABCD" "?" 4 1 (0 ∷ 0 ∷ 0 ∷ 9 ∷ []))) 12 0 0 0 ≡ refuse 6 12)
    × (shape_at (typed "\0\0\0\0" [] (item_of "ABCD" "?" 1 1 (9 ∷ []))) 12 0 ≡ is_shape kind.Unknown 0 0)
    × (shape_at (typed "[3]" (0 ∷ []) (item_of "ABCD" "?" 1 2 (9 ∷ 9 ∷ []))) 12 0 ≡ is_shape kind.Structures 2 0)
unfolding found_at first_item plan_of is_quaternions width_of one_text letter_plan kind_of element_at element_of type_named_at type_text expanded gone_through step column_letters widths_of
structures = (refl, refl, refl, refl, refl)

-- no such TYPE at the place named (12) comes before a payload past the end (2); a length of 0 is 12; quaternions and identifiers want their bytes (6)
pub refusals : (element_at_place (item_of "ABCD" "?" 2 1 (1 ∷ [])) 0 0 0 0 ≡ refuse 12 0)
    × (element_at_place (item_of "ABCD" "?" 2 1 (1 ∷ [])) 0 none 0 0 ≡ refuse 2 0)
    × (element_at_place (item_of "ABCD" "B" 0 1 []) 0 none 0 0 ≡ refuse 12 0)
    × (element_at_place (item_of "ABCD" "B" 1 1 (1 ∷ [])) 2 none 0 0 ≡ refuse 12 2)
    × (element_at_place (item_of "CORI" "s" 6 1 (1 ∷ 2 ∷ 3 ∷ 4 ∷ 5 ∷ 6 ∷ [])) 0 none 0 0 ≡ refuse 6 0)
    × (element_at_place (item_of "ABCD" "G" 4 1 (1 ∷ 2 ∷ 3 ∷ 4 ∷ [])) 0 none 0 0 ≡ refuse 6 0)
    × (element_at_place (item_of "ABCD" "B" 1 1 (1 ∷ [])) 0 none 1 0 ≡ refuse 13 0)
unfolding found_at first_item plan_of is_quaternions width_of one_text letter_plan kind_of type_named_at type_text
refusals = (refl, refl, refl, refl, refl, refl, refl)

-- ---- texts, identifiers, dates, quaternions

-- sixteen bytes of a date
abbrev noon : List ℕ
noon = characters "240229120000.000"

pub others : (element_at_place (item_of "ABCD" "c" 2 2 (65 ∷ 0 ∷ 66 ∷ 67 ∷ [])) 0 none 1 1 ≡ Ok (Unsigned 67))
    × (element_at_place (item_of "ABCD" "c" 2 2 (65 ∷ 0 ∷ 66 ∷ 67 ∷ [])) 0 none 0 1 ≡ refuse 13 0)
    × (element_at_place (item_of "ABCD" "F" 2 2 (65 ∷ 0 ∷ 66 ∷ 67 ∷ [])) 0 none 0 1 ≡ Ok (Unsigned 0))
    × (shape_at (item_of "ABCD" "F" 2 2 (65 ∷ 0 ∷ 66 ∷ 67 ∷ [])) 0 none ≡ is_shape kind.Text 1 4)
    × (element_at_place (item_of "ABCD" "G" 16 1 (0 ∷ 0 ∷ 0 ∷ 1 ∷ 0 ∷ 0 ∷ 0 ∷ 2 ∷ 0 ∷ 0 ∷ 0 ∷ 3 ∷ 0 ∷ 0 ∷ 0 ∷ 4 ∷ [])) 0 none 0 2 ≡ Ok (Unsigned 3))
    × (element_at_place (item_of "CORI" "s" 8 1 (0 ∷ 1 ∷ 255 ∷ 255 ∷ 0 ∷ 3 ∷ 0 ∷ 4 ∷ [])) 0 none 0 1 ≡ Ok (Signed (negsuc 0)))
unfolding found_at first_item plan_of is_quaternions width_of one_text letter_plan kind_of element_at element_of well_formed table fix run chunks are_well_formed
others = (refl, refl, refl, refl, refl, refl)

-- ---- the order of refusals

-- an expansion over 256 characters (8) comes before too few bytes (6), and both, like a text that is not readable (7), before a row outside (13)
pub order : (element_at_place (typed "f[257]" (0 ∷ 0 ∷ []) (item_of "ABCD" "?" 1 1 (9 ∷ []))) 16 0 9 0 ≡ refuse 8 16)
    × (element_at_place (typed "f" (0 ∷ 0 ∷ 0 ∷ []) (item_of "ABCD" "?" 1 1 (9 ∷ []))) 12 0 9 0 ≡ refuse 6 12)
    × (element_at_place (item_of "CORI" "s" 6 1 (1 ∷ 2 ∷ 3 ∷ 4 ∷ 5 ∷ 6 ∷ [])) 0 none 9 0 ≡ refuse 6 0)
    × (element_at_place (item_of "ABCD" "c" 2 2 (178 ∷ 0 ∷ 65 ∷ 0 ∷ [])) 0 none 9 0 ≡ refuse 7 0)
    × (element_at_place (item_of "ABCD" "U" 1 1 (50 ∷ [])) 0 none 9 0 ≡ refuse 6 0)
unfolding found_at first_item plan_of is_quaternions width_of one_text letter_plan type_named_at type_text expanded gone_through step column_letters widths_of well_formed table fix run chunks are_well_formed date_of copied readable without_plus worth_of
order = (refl, refl, refl, refl, refl)

-- a payload over the limit (1) comes before all of them, at place 0
pub long_first : (s : List ℕ) (at type row column : ℕ) → 1048576 < length s → element_at_place s at type row column ≡ refuse 1 0
unfolding found_at
long_first s at type row column h = rw (lt-ltb 1048576 (length s) h)
