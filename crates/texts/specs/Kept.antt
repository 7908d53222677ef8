-- Which bytes of a text are kept: document 01, Values ("trailing zeros dropped", "up to its first zero"). Assumes nothing: these are definitions.
use Rattle.std.specs.Prelude.{ℕ, zero, suc, List, [], ◌∷◌}

-- a byte and what is kept behind it: a zero with nothing kept behind it is dropped
abbrev pub keep : ℕ → List ℕ → List ℕ
keep zero [] = []
keep (suc b) [] = suc b ∷ []
keep b (c ∷ s) = b ∷ c ∷ s

-- a Latin-1 text: trailing zeros dropped
abbrev pub kept : List ℕ → List ℕ
kept [] = []
kept (b ∷ s) = keep b (kept s)

-- a UTF-8 text: up to its first zero
abbrev pub up_to_zero : List ℕ → List ℕ
up_to_zero [] = []
up_to_zero (zero ∷ s) = []
up_to_zero (suc b ∷ s) = suc b ∷ up_to_zero s
