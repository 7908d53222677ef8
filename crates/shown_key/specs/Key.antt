-- A key as a line shows it. Document 01, Cases, 12: "A key with a byte outside 33 to 126 is `x` and eight small hex digits."
-- Assumes nothing: these are definitions.
use Rattle.std.specs.Prelude.{ℕ, Bool, true, ◌&&◌, cond, List, [], ◌∷◌, ◌++◌, leb}
use Rattle.foundation.specs.BigEndian.{bytes_of}
use Rattle.foundation.specs.Text.{characters}
use Rattle.numerals.specs.Numerals.{last_digits}

-- "33 to 126"
abbrev pub visible : ℕ → Bool
visible b = leb 33 b && leb b 126

-- none of them is "outside 33 to 126"
abbrev pub all_visible : List ℕ → Bool
all_visible [] = true
all_visible (b ∷ s) = visible b && all_visible s

-- A KEY: its four bytes, or "`x` and eight small hex digits" where one of them is "outside 33 to 126"
unfoldable pub shown_key : ℕ → List ℕ
shown_key k = cond (all_visible (bytes_of 4 k)) (bytes_of 4 k) (characters "x" ++ last_digits 16 8 k)
