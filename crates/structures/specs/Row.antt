-- What the crate's own functions tell one another of a row of letters. Assumes nothing: these are definitions.
use Rattle.std.specs.Prelude.{ℕ, ◌≤◌, ◌≡◌, List, length, take, get_or}
use Rattle.structures.specs.declared.Row.{Row}
use Rattle.structures.specs.declared.Letter.{Letter}
use Rattle.value.specs.Value.{column_letters, widths_of}

-- a row of letters: its columns, and the bytes that they read
pub record RowIs (letters : List ℕ) (r : Row) : Type 0 where
  pub columns : r.columns ≡ length (column_letters letters)
  pub width : r.width ≡ widths_of (column_letters letters)
  pub small : r.width ≤ 2048

-- a column of a row of letters: its own letter, and the bytes before it
pub record LetterIs (letters : List ℕ) (column : ℕ) (r : Letter) : Type 0 where
  pub letter : r.letter ≡ get_or (column_letters letters) column 0
  pub before : r.before ≡ widths_of (take column (column_letters letters))
  pub small : r.before ≤ 2048
