-- What calls that write into lent bytes promise to a caller in another language: the answer as a record of numbers, and what was lent
-- afterwards, as the calls themselves promise it. Assumes nothing: these are definitions.
use Rattle.std.specs.Prelude.{ℕ, ◌≡◌, List}
use Rattle.custom_type.specs.Expansion.{expanded}
use Rattle.custom_type.specs.Resolved as Resolved
use Rattle.line.specs.Read.{decoded, decoded_into}
use Rattle.answers.specs.declared.WholeAnswer.{WholeAnswer}
use Rattle.answers.specs.Answers.{of_expanded, of_decoded}

-- a TYPE text written out
pub record ResolvedAs (text a b : List ℕ) (r : WholeAnswer) : Type 0 where
  pub is : r ≡ of_expanded (Resolved.told (expanded text))
  pub out : b ≡ Resolved.laid_if (Resolved.fits (expanded text)) (expanded text) a

-- the bytes in hex digits
pub record DecodesAs (s out : List ℕ) (answer : WholeAnswer) (after : List ℕ) : Type 0 where
  pub is : answer ≡ of_decoded (decoded s out)
  pub leaves : after ≡ decoded_into s out
