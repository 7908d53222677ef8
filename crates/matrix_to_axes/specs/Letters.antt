-- A letter as it is kept while a row is looked through: 0 stands for none, since no letter is 0.
-- Assumes nothing: these are definitions.
use Rattle.std.specs.Prelude.{ℕ, Option, Some, None, cond, eqb}

-- what such a number tells
unfoldable pub told : ℕ → Option ℕ
told n = cond (eqb n 0) None (Some n)
