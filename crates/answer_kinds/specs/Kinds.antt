-- The kinds of an answer that is told to a caller in another language, and what stands where it has no float (document 01, Refusal numbers: "A
-- refusal returns its number, a place and zeros"). Assumes nothing: these are definitions.
use Rattle.std.specs.Prelude.{ℕ, pos, Float, false}
use Rattle.std.specs.Float.{fin}

-- it is refused
abbrev pub refused : ℕ
refused = 0

-- it is there
abbrev pub is : ℕ
is = 1

-- there is none
abbrev pub nothing : ℕ
nothing = 2

-- it is not known before more is lent
abbrev pub more : ℕ
more = 3

-- the float 0, which stands where an answer has none
abbrev pub nought : Float
nought = fin false 0 (pos 0)
