-- The axes that a matrix names. Document 01, Axes and durations: "Back: the first column beyond 0.5 in size names each row's axis, small if negative."
-- Assumes nothing: these are definitions.
use Rattle.std.specs.Prelude.{ℕ, true, false, cond, List, [], ◌∷◌, Option, Some, None, Result, Ok, eqb, negsuc, Float, length, get_or}
use Prim.Native.Char.{code}
use Rattle.std.specs.Float.{nan, fin}
use Rattle.std.specs.Float.Ieee.{lt}
use Rattle.foundation.specs.Refusals.{no_matrix, refuse}
use Rattle.foundation.specs.declared.refusal.Refusal.{Refusal}
use Rattle.axes.specs.declared.Axes.{Axes}

-- what a column must be beyond: "above 0.5 or below -0.5" (document 01, Refusal numbers, 10)
abbrev pub half : Float
half = fin false 1 (negsuc 0)

-- and below
abbrev pub minus_half : Float
minus_half = fin true 1 (negsuc 0)

-- a column beyond 0.5 in size names its axis, small if negative; of any other the next columns decide (a NaN is neither above nor below)
unfoldable pub beyond : Float → ℕ → ℕ → Option ℕ → Option ℕ
beyond x letter less next = cond (lt half x) (Some letter) (cond (lt x minus_half) (Some less) next)

-- of a row that names no axis
abbrev pub none : Option ℕ
none = None

-- THE AXIS of a row: of its first such column
abbrev pub axis_of : List Float → Option ℕ
axis_of row =
    beyond (get_or row 0 nan) (code "X") (code "x")
    (beyond (get_or row 1 nan) (code "Y") (code "y")
    (beyond (get_or row 2 nan) (code "Z") (code "z") none))

-- refusal 10 at place 0: a row with none above 0.5 or below -0.5
unfoldable pub lettered : Option ℕ → Option ℕ → Option ℕ → Result Axes Refusal
lettered (Some a) (Some b) (Some c) = Ok (record { first = a; second = b; third = c })
lettered (Some a) (Some b) None = refuse no_matrix 0
lettered (Some a) None c = refuse no_matrix 0
lettered None b c = refuse no_matrix 0

-- THE AXES of three rows
abbrev pub orientation_of : List (List Float) → Result Axes Refusal
orientation_of m = lettered (axis_of (get_or m 0 [])) (axis_of (get_or m 1 [])) (axis_of (get_or m 2 []))

-- nine numbers as three rows of three
abbrev pub rows_of : List Float → List (List Float)
rows_of m = at 0 1 2 ∷ at 3 4 5 ∷ at 6 7 8 ∷ []
  where
    at : ℕ → ℕ → ℕ → List Float
    at a b c = get_or m a nan ∷ get_or m b nan ∷ get_or m c nan ∷ []

-- THE AXES of numbers: refusal 10 at place 0, too, where there are not nine
unfoldable pub orientation_in : List Float → Result Axes Refusal
orientation_in m = cond (eqb (length m) 9) (orientation_of (rows_of m)) (refuse no_matrix 0)
