-- What a MTRX gives: the numbers of its first row, where it is nested f32 numbers. Any other serves for none, as the Rust's `get_t` finds a value only under
-- the type asked for (document 01, Values; Axes and durations; Refusal numbers, 10). Assumes nothing: these are definitions.
use Rattle.std.specs.Prelude.{ℕ, zero, suc, Bool, false, cond, ◌&&◌, ◌||◌, List, [], ◌∷◌, ◌++◌, Option, Some, None, Result, Ok, Err, eqb, ltb, pos, Float}
use Prim.Native.Char.{code}
use Rattle.std.specs.Float.{fin}
use Rattle.foundation.specs.declared.refusal.Refusal.{Refusal}
use Rattle.axes.specs.declared.Axes.{Axes}
use Rattle.axes.specs.Back.{orientation_in}
use Rattle.klv.specs.declared.KLV.{KLV}
use Rattle.elements.specs.declared.Element.{Element}
use Rattle.elements.specs.declared.Element.TheVariants.{Signed, Unsigned, Single, Double}
use Rattle.value.specs.Value.{per_row, is_nested}
use Rattle.tagged.specs.Read.{read_at}

-- ---- which it is

-- the letters of f32 numbers, of four bytes each
abbrev pub is_single : ℕ → Bool
is_single letter = eqb letter (code "f") || eqb letter (code "q")

-- nested, with a column or more: a row of none names nothing
abbrev pub serves : ℕ → Bool
serves columns = is_nested columns && ltb 0 columns

-- ---- its first row

-- the first row of the item at a place
abbrev pub first_row : List ℕ → ℕ → ℕ → Result Element Refusal
first_row s at column = read_at s at 0 column

-- a number of it
abbrev pub single_of : Result Element Refusal → Float
single_of (Ok (Single x)) = x
single_of (Ok (Unsigned n)) = fin false 0 (pos 0)
single_of (Ok (Signed n)) = fin false 0 (pos 0)
single_of (Ok (Double x)) = fin false 0 (pos 0)
single_of (Err r) = fin false 0 (pos 0)

-- the first so many
unfoldable pub singles_of : (ℕ → Result Element Refusal) → ℕ → List Float
singles_of row zero = []
singles_of row (suc n) = singles_of row n ++ (single_of (row n) ∷ [])

-- ---- THE AXES of a MTRX

-- what the matrix names, or its refusal
abbrev pub told : Result Axes Refusal → Result (Option Axes) Refusal
told (Ok axes) = Ok (Some axes)
told (Err r) = Err r

-- of the item with a header, by its first row
abbrev pub by_matrix : KLV → (ℕ → Result Element Refusal) → Result (Option Axes) Refusal
by_matrix h row = cond (is_single h.data_type && serves (per_row h)) (told (orientation_in (singles_of row (per_row h)))) (Ok None)
