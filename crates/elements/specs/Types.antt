-- The letters of the type byte that read numbers, and how many bytes each reads: GPMF description, Types; document 01, Values ("Widths"; "other
-- characters read nothing": texts, identifiers and dates are read as wholes, and inside a structure not at all).
-- Assumes nothing: these are definitions.
use Rattle.std.specs.Prelude.{ℕ, Bool, false, cond, ◌||◌, List, [], ◌∷◌, eqb}
use Prim.Native.String.{String}
use Rattle.foundation.specs.Text.{characters}

-- is a byte one of these?
abbrev pub any_of : List ℕ → ℕ → Bool
any_of [] b = false
any_of (c ∷ cs) b = eqb b c || any_of cs b

-- is a type byte one of these letters?
abbrev pub among : String → ℕ → Bool
among letters b = any_of (characters letters) b

-- the bytes that an element of a type has; any other letter reads nothing
unfoldable pub width_of : ℕ → ℕ
width_of letter = cond (among "bB" letter) 1 (cond (among "sS" letter) 2 (cond (among "lLfq" letter) 4 (cond (among "djJQ" letter) 8 0)))
