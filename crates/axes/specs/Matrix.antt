-- The matrix of two texts of axes. Document 01, Axes and durations: "The matrix is three rows of three numbers: a row per ORIO letter, a column per
-- ORIN letter; 1 for the same character, -1 for the same letter in the other case, else 0." Assumes nothing: these are definitions.
use Rattle.std.specs.Prelude.{ℕ, ◌+◌, Bool, true, false, cond, ◌&&◌, List, [], ◌∷◌, Result, Ok, eqb, leb, ltb, pos, Float, length, get_or}
use Prim.Native.Char.{code}
use Rattle.std.specs.Float.{fin}
use Rattle.foundation.specs.Refusals.{no_axes, refuse}
use Rattle.foundation.specs.declared.refusal.Refusal.{Refusal}
use Rattle.axes.specs.declared.Axes.{Axes}
use Rattle.axes.specs.declared.Orientations.{Orientations}

-- ---- the texts

-- an ASCII character
abbrev pub ascii : ℕ → Bool
ascii c = ltb c 128

-- three ASCII characters
unfoldable pub three_ascii : List ℕ → Bool
three_ascii text = eqb (length text) 3 && (ascii (get_or text 0 0) && ascii (get_or text 1 0) && ascii (get_or text 2 0))

-- its axes, a character each
abbrev pub axes_of : List ℕ → Axes
axes_of text = record { first = get_or text 0 0; second = get_or text 1 0; third = get_or text 2 0 }

-- THE TEXTS of ORIN and ORIO: refusal 9 at place 0 where they are not three ASCII characters each
unfoldable pub orientations_of : List ℕ → List ℕ → Result Orientations Refusal
orientations_of orin orio = cond (three_ascii orin && three_ascii orio) (Ok (record { orin = axes_of orin; orio = axes_of orio })) (refuse no_axes 0)

-- ---- the matrix

-- "1 for the same character"
abbrev pub one : Float
one = fin false 1 (pos 0)

-- "-1 for the same letter in the other case"
abbrev pub minus_one : Float
minus_one = fin true 1 (pos 0)

-- "else 0"
abbrev pub nought : Float
nought = fin false 0 (pos 0)

-- the small letter of a letter; any other character is its own
abbrev pub small : ℕ → ℕ
small c = cond (leb (code "A") c && leb c (code "Z")) (c + 32) c

-- 1 for the same character, -1 for the same letter in the other case, else 0
unfoldable pub entry_of : ℕ → ℕ → Float
entry_of o i = cond (eqb i o) one (cond (eqb (small i) (small o)) minus_one nought)

-- an ORIO letter's row: a column for each ORIN letter
abbrev pub row_of : Axes → ℕ → List Float
row_of orin o = entry_of o orin.first ∷ entry_of o orin.second ∷ entry_of o orin.third ∷ []

-- THE MATRIX: a row for each ORIO letter
abbrev pub matrix_of : Axes → Axes → List (List Float)
matrix_of orin orio = row_of orin orio.first ∷ row_of orin orio.second ∷ row_of orin orio.third ∷ []
