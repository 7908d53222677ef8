-- A text laid into a lent buffer: how each line that a program prints is made (document 01, Cases, 12). A text is laid whole or not at all.
-- Assumes nothing: these are definitions.
use Rattle.std.specs.Prelude.{ℕ, ◌+◌, ◌≡◌, Bool, cond, List, ◌++◌, leb, length, take, drop}

-- the answer where a text does not fit: the largest number, a place that no buffer has, so nothing fits behind it either
abbrev pub full : ℕ
full = 18446744073709551615

-- whether a buffer holds all of a text at a place
abbrev pub fits : List ℕ → ℕ → List ℕ → Bool
fits out at text = leb (at + length text) (length out)

-- a buffer with a text at a place, and all else as it was
abbrev pub over : List ℕ → ℕ → List ℕ → List ℕ
over out at text = take at out ++ text ++ drop (at + length text) out

-- the buffer after a text is laid: as it was where the text does not fit
unfoldable pub laid : List ℕ → ℕ → List ℕ → List ℕ
laid out at text = cond (fits out at text) (over out at text) out

-- the place behind a text that is laid, where the next one goes
unfoldable pub behind : List ℕ → ℕ → List ℕ → ℕ
behind out at text = cond (fits out at text) (at + length text) full

-- what laying a text promises: the place that is answered, and the buffer
pub record Lays (text out : List ℕ) (at answer : ℕ) (after : List ℕ) : Type 0 where
  pub is : answer ≡ behind out at text
  pub leaves : after ≡ laid out at text
