-- What a matrix is told as to a caller in another language: its nine numbers, row by row. Assumes nothing: these are definitions.
use Rattle.std.specs.Prelude.{ℕ, ◌+◌, Float, List, [], ◌∷◌, get_or}
use Rattle.std.specs.Float.{nan}
use Rattle.matrix_answers.specs.declared.Matrix.{Matrix}

-- the number at a row and a column
abbrev pub entry : List (List Float) → ℕ → ℕ → Float
entry m r column = get_or (get_or m r []) column nan

-- nine numbers
abbrev pub of_matrix : List (List Float) → Matrix
of_matrix m =
    record { entries = entry m 0 0 ∷ entry m 0 1 ∷ entry m 0 2 ∷ entry m 1 0 ∷ entry m 1 1 ∷ entry m 1 2 ∷ entry m 2 0 ∷ entry m 2 1 ∷ entry m 2 2 ∷ [] }

-- three of nine numbers, from a place on
abbrev pub row_from : List Float → ℕ → List Float
row_from s n = get_or s n nan ∷ get_or s (n + 1) nan ∷ get_or s (n + 2) nan ∷ []

-- the same back
abbrev pub to_matrix : Matrix → List (List Float)
to_matrix m = row_from m.entries 0 ∷ row_from m.entries 3 ∷ row_from m.entries 6 ∷ []
