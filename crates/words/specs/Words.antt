-- Lines of an input, and words in hex, as the protocol of the replayed questions has them (oracle/README.md). Assumes nothing: these are definitions.
use Rattle.std.specs.Prelude.{Result, Ok, Err, ℕ, ◌≡◌, Bool, cond, ◌&&◌, List, [], eqb, length, get_or, drop}
use Prim.Native.Char.{code}
use Rattle.foundation.specs.Pieces.{pieces_of}
use Rattle.line.specs.Read.{decoded, decoded_into}
use Rattle.line.specs.declared.HexError.{HexError}
use Rattle.line.specs.declared.HexError.TheVariants.{NotHex}

-- "One question a line": the line that starts at a place is the first of what stands from there on
unfoldable pub line_from : List ℕ → ℕ → List ℕ
line_from s from = get_or (pieces_of 10 (drop from s)) 0 []

-- "`-` for none": whether a word is that sign alone
unfoldable pub is_dash : List ℕ → Bool
is_dash word = eqb (length word) 1 && eqb (get_or word 0 0) (code "-")

-- the answer to a word and a lent buffer: no characters are no hex, and a dash is no bytes
unfoldable pub decoded_word : List ℕ → List ℕ → Result ℕ HexError
decoded_word word out = cond (eqb (length word) 0) (Err NotHex) (cond (is_dash word) (Ok 0) (decoded word out))

-- what decoding a word promises: the answer, and the buffer, which only digits change
pub record DecodesWord (word out : List ℕ) (answer : Result ℕ HexError) (after : List ℕ) : Type 0 where
  pub is : answer ≡ decoded_word word out
  pub leaves : after ≡ decoded_into word out
