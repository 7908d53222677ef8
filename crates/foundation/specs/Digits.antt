-- Digits, and the number that they spell in a base: document 01, Values (the numbers in a TYPE text and in a date) and Cases, 12 (numbers "decimal",
-- a key as "eight small hex digits"). Assumes nothing: these are definitions.
use Rattle.std.specs.Prelude.{ℕ, ◌+◌, ◌*◌, ◌^◌, Bool, true, ◌&&◌, List, [], ◌∷◌, ltb, length}
use Rattle.foundation.specs.Text.{characters}
use Rattle.foundation.specs.Pieces.{before}

-- the digits in their order
abbrev pub digits : List ℕ
digits = characters "0123456789abcdef"

-- what a digit is worth: how many digits stand before it; 16, past them all, for a character that is none
unfoldable pub worth_of : ℕ → ℕ
worth_of c = before c digits

-- each character is a digit of the base: any other, a sign too, is none
abbrev pub are_digits : ℕ → List ℕ → Bool
are_digits base [] = true
are_digits base (c ∷ s) = ltb (worth_of c) base && are_digits base s

-- what digits are worth together: each weighs the base for every digit behind it, so leading zeros weigh nothing
abbrev pub worth : ℕ → List ℕ → ℕ
worth base [] = 0
worth base (c ∷ s) = worth_of c * base ^ length s + worth base s
