-- The pieces of a text: its words, where a space parts them. Assumes nothing: these are definitions.
use Rattle.std.specs.Prelude.{ℕ, suc, Bool, true, false, List, [], ◌∷◌, eqb}

-- one byte more stands before it, unless it is this one
abbrev pub count_one : Bool → ℕ → ℕ
count_one true n = 0
count_one false n = suc n

-- how many bytes stand before the first that is b: all of them where none is
abbrev pub before : ℕ → List ℕ → ℕ
before b [] = 0
before b (c ∷ s) = count_one (eqb c b) (before b s)

-- a byte in front of the first piece
abbrev pub in_front : ℕ → List (List ℕ) → List (List ℕ)
in_front c [] = (c ∷ []) ∷ []
in_front c (piece ∷ more) = (c ∷ piece) ∷ more

-- a byte that ends a piece starts another
abbrev pub ends : Bool → ℕ → List (List ℕ) → List (List ℕ)
ends true c more = [] ∷ more
ends false c more = in_front c more

-- the pieces of a text, each ended by the byte b or by the end
abbrev pub pieces_of : ℕ → List ℕ → List (List ℕ)
pieces_of b [] = [] ∷ []
pieces_of b (c ∷ s) = ends (eqb c b) c (pieces_of b s)
