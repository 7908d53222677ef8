-- The parts that a line is laid in, one behind the other, are the line. Assumes nothing.
use Prim.Native.Nat.{ℕ, ◌/◌, ◌%◌, ◌^◌}
use mathlib.Core.Path.{◌≡◌, sym, ap}
use mathlib.Core.List.{List, [], ◌∷◌, ◌++◌, append_assoc}
use Rattle.foundation.specs.Text.{characters}
use Rattle.rows.specs.declared.Row.{Row}
use Rattle.walk.specs.declared.Metadata.{Metadata}
use Rattle.foundation.specs.declared.refusal.Refusal.{Refusal}
use Rattle.foundation.specs.Refusals.{refuse}
use Rattle.std.specs.Prelude.{Result, Ok}
use Rattle.numerals.specs.Numerals.{decimal}
use Rattle.shown_key.specs.Key.{shown_key}
use Rattle.listing_line.specs.Line.{spaced, shown_group, columns, answer_line, group_in, row_line}

regroup : (p g k t z r d : List ℕ) → p ++ ((g ++ k) ++ ((t ++ (z ++ r)) ++ d)) ≡ p ++ (g ++ (k ++ (t ++ (z ++ (r ++ d)))))
regroup p g k t z r d = simp append_assoc

-- the place, the two keys, the three numbers of the shape, the depth
pub row_parts : (r : Row)
    → spaced (decimal r.place)
    ++ ((spaced (shown_group (group_in r)) ++ spaced (shown_key r.key))
    ++ ((spaced (decimal (r.shape / 2 ^ 24)) ++ (spaced (decimal (r.shape / 2 ^ 16 % 256)) ++ spaced (decimal (r.shape % 2 ^ 16))))
    ++ (decimal r.depth ++ 10 ∷ [])))
    ≡ row_line r
unfolding row_line columns
row_parts r =
    regroup (spaced (decimal r.place)) (spaced (shown_group (group_in r))) (spaced (shown_key r.key)) (spaced (decimal (r.shape / 2 ^ 24)))
    (spaced (decimal (r.shape / 2 ^ 16 % 256))) (spaced (decimal (r.shape % 2 ^ 16))) (decimal r.depth ++ 10 ∷ [])

-- a word and its number, twice
pub rows_parts : (a : Result Metadata Refusal) (rows headers : ℕ) → a ≡ Ok (record { rows = rows; headers = headers })
    → (characters "rows " ++ (decimal rows ++ 32 ∷ [])) ++ (characters "headers " ++ (decimal headers ++ 10 ∷ [])) ≡ answer_line a
unfolding answer_line
rows_parts a rows headers e = ap answer_line (sym e)

pub refused_parts : (a : Result Metadata Refusal) (number place : ℕ) → a ≡ refuse number place
    → (characters "refused " ++ (decimal number ++ 32 ∷ [])) ++ (characters "at " ++ (decimal place ++ 10 ∷ [])) ≡ answer_line a
unfolding answer_line
refused_parts a number place e = ap answer_line (sym e)
