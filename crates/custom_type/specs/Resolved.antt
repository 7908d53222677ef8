-- What `resolve_custom_type` answers and leaves: document 01, What is read ("an expanded type has at most 256 characters") and Refusal numbers.
-- Assumes nothing: these are definitions.
use Rattle.std.specs.Prelude.{ℕ, ◌≡◌, Bool, true, false, cond, List, ◌++◌, leb, length, drop, Result, Ok, Err}
use Rattle.foundation.specs.Refusals.{number_of}
use Rattle.foundation.specs.declared.refusal.Fault.{Fault}
use Rattle.foundation.specs.declared.refusal.Fault.TheVariants.{LongType}
use Rattle.custom_type.specs.Expansion.{expanded}

-- document 01's number of a refusal (Refusal numbers, 8: "expanded type over 256 characters"), 0 for none
abbrev pub refusal : Result ℕ Fault → ℕ
refusal (Ok n) = 0
refusal (Err f) = number_of f

-- at most 256 characters
abbrev pub fits : List ℕ → Bool
fits e = leb (length e) 256

-- the answer for an expansion: how many characters, or the refusal
abbrev pub told : List ℕ → Result ℕ Fault
told e = cond (fits e) (Ok (length e)) (Err LongType)

-- the array then: what lies past the last character keeps what it held, and a refusal keeps all
abbrev pub laid_if : Bool → List ℕ → List ℕ → List ℕ
laid_if true e a = e ++ drop (length e) a
laid_if false e a = a

-- THE PROMISE, of a text, the lent array at entry (a) and at exit (b), and the answer
pub record Resolved (text a b : List ℕ) (r : Result ℕ Fault) : Type 0 where
  pub is : r ≡ told (expanded text)
  pub out : b ≡ laid_if (fits (expanded text)) (expanded text) a
