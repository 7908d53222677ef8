-- What the call that writes into lent numbers promises to a caller in another language: the answer as a record of numbers, and what was lent
-- afterwards, as the call itself promises it. Assumes nothing: this is a definition.
use Rattle.std.specs.Prelude.{ℕ, ◌≡◌, List, length}
use Rattle.items.specs.At.{Found}
use Rattle.all_elements.specs.Laid.{told_of_found, lent_of_found}
use Rattle.answers.specs.declared.WholeAnswer.{WholeAnswer}
use Rattle.answers.specs.Answers.{of_count}

-- all elements of the value of what was found at a place
pub record ElementsAs (f : Found) (at : ℕ) (old : List ℕ) (answer : WholeAnswer) (new : List ℕ) : Type 0 where
  pub is : answer ≡ of_count (told_of_found f at (length old))
  pub numbers : new ≡ lent_of_found f old
