-- What a TYPE text stands for, written out: GPMF description, Structure ("`x[n]` stands for n of x"); document 01, Values, Expansion.
-- Assumes nothing: these are definitions.
use Rattle.std.specs.Prelude.{ℕ, ◌+◌, ◌-◌, ◌%◌, Bool, true, false, cond, List, [], ◌∷◌, ◌++◌, leb, eqb, replicate}
use Prim.Native.Char.{code}
use Rattle.custom_type.specs.Number.{number_in}

-- how a character is copied: one above 127 as 128 plus its remainder by 64, "as the Rust copies a byte"
unfoldable pub copied : ℕ → ℕ
copied c = cond (leb c 127) c (128 + c % 64)

-- the last of some characters
abbrev pub last_of : ℕ → List ℕ → ℕ
last_of c [] = c
last_of c (d ∷ s) = last_of d s

-- n copies of the last character: none if there is none yet
abbrev pub copies : ℕ → List ℕ → List ℕ
copies n [] = []
copies n (c ∷ s) = replicate n (copied (last_of c s))

-- a text as far as it has been gone through: the characters that it stands for, whether a `[` is open, and what has been collected since
pub record Expansion : Type 0 where
  pub written : List ℕ
  pub collecting : Bool
  pub collected : List ℕ

-- nothing yet
abbrev pub start : Expansion
start = record { written = []; collecting = false; collected = [] }

-- what a character is to an expansion
pub data Mark : Type 0 where
  opens : Mark  -- `[`
  closes : Mark  -- `]`
  letter : Mark  -- any other

-- the mark that a character is
abbrev pub mark_of : ℕ → Mark
mark_of c = cond (eqb c (code "[")) opens (cond (eqb c (code "]")) closes letter)

-- `[` starts and goes on collecting
abbrev pub opened : Expansion → Expansion
opened x = record { written = x.written; collecting = true; collected = x.collected }

-- `]` ends it, and a number k copies the last character k - 1 times: 0 and 1 copy nothing
abbrev pub closed : Expansion → Expansion
closed x =
    record { written = x.written ++ copies (number_in x.collected - 1) x.written; collecting = false; collected = [] }

-- any other character is collected behind a `[`, and stands for itself elsewhere
abbrev pub letter_by : Bool → Expansion → ℕ → Expansion
letter_by true x c = record { written = x.written; collecting = true; collected = x.collected ++ c ∷ [] }
letter_by false x c = record { written = x.written ++ c ∷ []; collecting = false; collected = x.collected }

-- any other character, where it stands
abbrev pub with_letter : Expansion → ℕ → Expansion
with_letter x c = letter_by x.collecting x c

-- by what the character is
abbrev pub step_by : Mark → Expansion → ℕ → Expansion
step_by opens x c = opened x
step_by closes x c = closed x
step_by letter x c = with_letter x c

-- WHAT ONE CHARACTER DOES
unfoldable pub step : Expansion → ℕ → Expansion
step x c = step_by (mark_of c) x c

-- character after character
unfoldable pub gone_through : Expansion → List ℕ → Expansion
gone_through x [] = x
gone_through x (c ∷ s) = gone_through (step x c) s

-- THE EXPANSION of a text: what is collected behind an open `[` is not written, so that it swallows the rest
unfoldable pub expanded : List ℕ → List ℕ
expanded text = (gone_through start text).written
