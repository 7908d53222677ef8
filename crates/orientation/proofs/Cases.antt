-- What the definitions come to on small payloads, computed: case 10's axes as texts in a group, a matrix before them, and what serves for none.
-- Assumes nothing.
use Prim.Native.Nat.{ℕ}
use Prim.Native.Char.{code}
use Prim.Native.String.{String}
use mathlib.Core.Path.{◌≡◌, refl}
use mathlib.Core.List.{List, [], ◌∷◌, ◌++◌}
use lib.Ieee.{of_bits, lt}
use Rattle.std.specs.Prelude.{Option, Some, None, Result, Ok}
use Rattle.foundation.specs.Text.{characters, key}
use Rattle.foundation.specs.Refusals.{refuse}
use Rattle.foundation.specs.declared.refusal.Refusal.{Refusal}
use Rattle.keys.specs.Keys.{tags, tag_of}
use Rattle.keys.specs.Table.{found}
use Rattle.klv.specs.Item.{first_item}
use Rattle.klv.specs.OneText.{one_text}
use Rattle.elements.specs.Types.{width_of}
use Rattle.elements.specs.Element.{element_of, element_at}
use Rattle.value.specs.Value.{kind_of, is_quaternions, plan_of}
use Rattle.items.specs.At.{found_at}
use Rattle.rows.specs.Lookup.{rows_of, matching, last_from, lookup_of}
use Rattle.tagged.specs.Tagged.{tagged_at, tagged_of}
use Rattle.axes.specs.declared.Axes.{Axes}
use Rattle.axes.specs.Matrix.{three_ascii, orientations_of, entry_of}
use Rattle.axes.specs.Back.{beyond, lettered, orientation_in}
use Rattle.orientation.specs.Matrix.{singles_of}
use Rattle.orientation.specs.Group.{orientation_of_group}

-- an item of a text of three characters, with its padding
abbrev text_item : String → String → List ℕ
text_item name text = characters name ++ (code "c" ∷ 1 ∷ 0 ∷ 3 ∷ characters text ++ (0 ∷ []))

-- the row of an item in the group GYRO: lookup asks for no more than the group, the tag and the places
abbrev row_for : String → ℕ → List ℕ
row_for name place = place ∷ 1 ∷ key "GYRO" ∷ tag_of (key name) ∷ key name ∷ 0 ∷ 4294967295 ∷ 1 ∷ []

abbrev of_gyro : List ℕ → List ℕ → ℕ → Result (Option Axes) Refusal
of_gyro s rows count = orientation_of_group s rows count 1 (key "GYRO")

abbrev axes : ℕ → ℕ → ℕ → Result (Option Axes) Refusal
axes a b c = Ok (Some (record { first = a; second = b; third = c }))

-- CASE 10 in a payload: ORIN YxZ and ORIO XYZ are yXZ; of two ORIO the last counts; ORIN alone is nothing; two rows in the room of one are refused;
-- so is a matrix with a row of noughts
pub texts_of_a_group : (of_gyro (text_item "ORIN" "YxZ" ++ text_item "ORIO" "XYZ") (row_for "ORIN" 0 ++ row_for "ORIO" 12) 2 ≡ axes (code "y") (code "X") (code "Z"))
    × (of_gyro (text_item "ORIN" "YxZ" ++ text_item "ORIO" "XYZ") (row_for "ORIN" 0 ++ row_for "ORIO" 12 ++ row_for "ORIO" 0) 3 ≡ axes (code "X") (code "Y") (code "Z"))
    × (of_gyro (text_item "ORIN" "YxZ") (row_for "ORIN" 0) 1 ≡ Ok None)
    × (of_gyro (text_item "ORIN" "YxZ") (row_for "ORIN" 0) 2 ≡ refuse 5 0)
    × (of_gyro (text_item "ORIN" "YxZ" ++ text_item "ORIO" "XXX") (row_for "ORIN" 0 ++ row_for "ORIO" 12) 2 ≡ axes (code "y") (code "y") (code "y"))
    × (of_gyro (text_item "ORIN" "YYZ" ++ text_item "ORIO" "XYZ") (row_for "ORIN" 0 ++ row_for "ORIO" 12) 2 ≡ refuse 10 0)
unfolding orientation_of_group tagged_of tagged_at lookup_of rows_of last_from matching tags found found_at first_item plan_of is_quaternions one_text width_of kind_of element_at element_of singles_of orientations_of three_ascii entry_of beyond lettered orientation_in lt of_bits
texts_of_a_group = (refl, refl, refl, refl, refl, refl)

-- ---- a matrix

abbrev one : List ℕ
one = 63 ∷ 128 ∷ 0 ∷ 0 ∷ []

abbrev nought : List ℕ
nought = 0 ∷ 0 ∷ 0 ∷ 0 ∷ []

-- the numbers of a matrix that turns the axes round: 0 0 1 / 0 1 0 / 1 0 0
abbrev numbers : List ℕ
numbers = nought ++ nought ++ one ++ nought ++ one ++ nought ++ one ++ nought ++ nought

abbrev matrix_item : ℕ → ℕ → List ℕ
matrix_item size repeat = characters "MTRX" ++ (code "f" ∷ size ∷ 0 ∷ repeat ∷ numbers)

abbrev with_texts : List ℕ → Result (Option Axes) Refusal
with_texts mtrx = of_gyro (text_item "ORIN" "YxZ" ++ text_item "ORIO" "XYZ" ++ mtrx) (row_for "ORIN" 0 ++ row_for "ORIO" 12 ++ row_for "MTRX" 24) 3

-- MTRX BEFORE THEM: nine numbers in a row; as a list, or as vectors, it serves for none, and the texts are not asked; two numbers in a row are refused
pub matrix_of_a_group : (with_texts (matrix_item 36 1) ≡ axes (code "Z") (code "Y") (code "X")) × (with_texts (matrix_item 4 9) ≡ Ok None) × (with_texts (matrix_item 12 3) ≡ Ok None)
    × (with_texts (matrix_item 8 4) ≡ refuse 10 0)
unfolding orientation_of_group tagged_of tagged_at lookup_of rows_of last_from matching tags found found_at first_item plan_of is_quaternions one_text width_of kind_of element_at element_of singles_of orientations_of three_ascii entry_of beyond lettered orientation_in lt of_bits
matrix_of_a_group = (refl, refl, refl, refl)

-- ---- values that cannot be read, and items that are not there

-- an item of a date of one byte, which is refused with 6
abbrev short_date : String → List ℕ
short_date name = characters name ++ (code "U" ∷ 1 ∷ 0 ∷ 1 ∷ code "2" ∷ 0 ∷ 0 ∷ 0 ∷ [])

-- NO AXES out of a value that cannot be read; an item that is cut off, or not there, is refused
pub unread_of_a_group : (with_texts (short_date "MTRX") ≡ Ok None) × (of_gyro (short_date "ORIN" ++ text_item "ORIO" "XYZ") (row_for "ORIN" 0 ++ row_for "ORIO" 12) 2 ≡ Ok None)
    × (of_gyro (text_item "ORIN" "YxZ" ++ short_date "ORIO") (row_for "ORIN" 0 ++ row_for "ORIO" 12) 2 ≡ Ok None)
    × (with_texts (characters "MTRX" ++ (code "f" ∷ 36 ∷ 0 ∷ 1 ∷ one)) ≡ refuse 2 24)
    × (with_texts (characters "MTRX") ≡ refuse 12 24)
unfolding orientation_of_group tagged_of tagged_at lookup_of rows_of last_from matching tags found found_at first_item plan_of is_quaternions one_text width_of kind_of element_at element_of singles_of orientations_of three_ascii entry_of beyond lettered orientation_in lt of_bits
unread_of_a_group = (refl, refl, refl, refl, refl)
