-- `copied_as` meets its contract, by its test. Assumes nothing.
use borrow.Author.Tests.{le-leb, lt-leb}
use Rattle.custom_type.specs.Expansion.{copied}
use Rattle.custom_type.proofs.step.copied_as.Goals as goal

pub returns-then-c-le127 : goal.returns-then-c-le127
unfolding copied
returns-then-c-le127 c = simp (le-leb _ _ c.if-c-le127.true)

pub returns-else-c-le127 : goal.returns-else-c-le127
unfolding copied
returns-else-c-le127 c = simp (lt-leb _ _ c.if-c-le127.false)
