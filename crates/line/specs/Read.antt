-- What is read out of a line: a number, bytes in hex. The other way round from Numerals. Assumes nothing: these are definitions.
use Rattle.std.specs.Prelude.{Option, Some, None, Result, Ok, Err, ℕ, ◌+◌, ◌*◌, ◌%◌, ◌^◌, ◌≡◌, Bool, cond, ◌&&◌, List, [], ◌∷◌, ltb, eqb, length}
use Rattle.text.specs.Lay.{fits, laid}
use Rattle.foundation.specs.Digits.{worth_of, are_digits, worth}
use Rattle.line.specs.declared.HexError.{HexError}
use Rattle.line.specs.declared.HexError.TheVariants.{NoRoom, NotHex}

-- what digits are worth together as a number of 64 bits, where it is one
unfoldable pub worth_in64 : ℕ → List ℕ → Option ℕ
worth_in64 base s = cond (ltb (worth base s) (2 ^ 64)) (Some (worth base s)) None

-- the number in a text of digits, one at least
unfoldable pub number_in : ℕ → List ℕ → Option ℕ
number_in base s = cond (ltb 0 (length s) && are_digits base s) (worth_in64 base s) None

-- the bytes in a text of hex digits, two to a byte
abbrev pub bytes_in : List ℕ → List ℕ
bytes_in [] = []
bytes_in (a ∷ []) = []
bytes_in (a ∷ b ∷ s) = (worth_of a * 16 + worth_of b) ∷ bytes_in s

-- hex digits two by two
abbrev pub is_hex : List ℕ → Bool
is_hex s = eqb (length s % 2) 0 && are_digits 16 s

-- the answer to a text of hex and a lent buffer: how many bytes it has, no room for them, or no hex at all
unfoldable pub decoded : List ℕ → List ℕ → Result ℕ HexError
decoded s out = cond (is_hex s) (cond (fits out 0 (bytes_in s)) (Ok (length (bytes_in s))) (Err NoRoom)) (Err NotHex)

-- the buffer then: the bytes laid at its front; as it was where they are none or have no room
unfoldable pub decoded_into : List ℕ → List ℕ → List ℕ
decoded_into s out = cond (is_hex s) (laid out 0 (bytes_in s)) out

-- what decoding promises: the answer, and the buffer
pub record Decodes (s out : List ℕ) (answer : Result ℕ HexError) (after : List ℕ) : Type 0 where
  pub is : answer ≡ decoded s out
  pub leaves : after ≡ decoded_into s out
