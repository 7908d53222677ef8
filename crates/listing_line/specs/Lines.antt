-- Lines laid into a lent buffer one behind the other, each whole or not at all: behind one that does not fit there is none.
-- Assumes nothing: these are definitions.
use Rattle.std.specs.Prelude.{ℕ, ◌*◌, ◌≤◌, ◌≡◌, length, take}
use mathlib.Core.List.{List, [], ◌∷◌, flatten}
use Rattle.text.specs.Lay.{full, laid, behind}

-- the buffer after lines are laid from a place on
unfoldable pub laid_lines : List (List ℕ) → List ℕ → ℕ → List ℕ
laid_lines [] out at = out
laid_lines (line ∷ lines) out at = laid_lines lines (laid out at line) (behind out at line)

-- the place behind them: `full` where one of them does not fit
unfoldable pub behind_lines : List (List ℕ) → List ℕ → ℕ → ℕ
behind_lines [] out at = at
behind_lines (line ∷ lines) out at = behind_lines lines (laid out at line) (behind out at line)

-- no line is longer: seven columns, which come of 32-bit numbers, or two words and two numbers of 64 bits
abbrev pub longest_line : ℕ
longest_line = 56

-- what laying lines promises: the place that is answered, and the buffer; and how long they are at most, so that a caller knows what holds them
pub record LaysLines (lines : List (List ℕ)) (out : List ℕ) (at answer : ℕ) (after : List ℕ) : Type 0 where
  pub is : answer ≡ behind_lines lines out at
  pub leaves : after ≡ laid_lines lines out at
  pub short : length (flatten lines) ≤ length lines * longest_line

-- ---- at the start of a buffer

-- a buffer begins with a text of so many bytes
pub record Begins (text : List ℕ) (count : ℕ) (buffer : List ℕ) : Type 0 where
  pub is : count ≡ length text
  pub within : count ≤ length buffer
  pub counts : count ≡ length (take count buffer)
  pub holds : take count buffer ≡ text

-- ---- a line in the making, which is no call from outside

-- a text laid in parts: the place behind it, and the buffer where all of them fitted
pub record Joins (text out : List ℕ) (at answer : ℕ) (after : List ℕ) : Type 0 where
  pub is : answer ≡ behind out at text
  pub leaves : (answer ≡ full → ⊥) → after ≡ laid out at text

-- a line made at the start of a buffer
pub record Makes (line : List ℕ) (answer : ℕ) (after : List ℕ) : Type 0 where
  pub begins : Begins line answer after
  pub short : length line ≤ longest_line
