-- Well-formed UTF-8: the Unicode Standard, table 3-7, "Well-Formed UTF-8 Byte Sequences".
-- Document 01, Values ("one UTF-8 text per size bytes"). Assumes nothing: these are definitions.
use Rattle.std.specs.Prelude.{ℕ, Bool, true, false, cond, ◌&&◌, List, [], ◌∷◌, leb}

infix 80 ◌to◌
-- the bytes from one to another, both counted in
pub data Range : Type 0 where
  ◌to◌ : ℕ → ℕ → Range

-- a byte lies in a range
abbrev pub within : Range → ℕ → Bool
within (first to last) b = leb first b && leb b last

-- a row of the table: where the first byte of a sequence lies, and where each byte behind it
pub data Row : Type 0 where
  row : Range → List Range → Row

-- THE TABLE, as the standard has it
unfoldable pub table : List Row
table =
    row (0x00 to 0x7F) []
    ∷ row (0xC2 to 0xDF) (0x80 to 0xBF ∷ [])
    ∷ row (0xE0 to 0xE0) (0xA0 to 0xBF ∷ 0x80 to 0xBF ∷ [])
    ∷ row (0xE1 to 0xEC) (0x80 to 0xBF ∷ 0x80 to 0xBF ∷ [])
    ∷ row (0xED to 0xED) (0x80 to 0x9F ∷ 0x80 to 0xBF ∷ [])
    ∷ row (0xEE to 0xEF) (0x80 to 0xBF ∷ 0x80 to 0xBF ∷ [])
    ∷ row (0xF0 to 0xF0) (0x90 to 0xBF ∷ 0x80 to 0xBF ∷ 0x80 to 0xBF ∷ [])
    ∷ row (0xF1 to 0xF3) (0x80 to 0xBF ∷ 0x80 to 0xBF ∷ 0x80 to 0xBF ∷ [])
    ∷ row (0xF4 to 0xF4) (0x80 to 0x8F ∷ 0x80 to 0xBF ∷ 0x80 to 0xBF ∷ [])
    ∷ []

-- what a text owes where it was read so far
pub data Due : Type 0 where
  due : List Range → Due  -- a byte in each of these ranges, and behind them whole sequences
  refused : Due  -- nothing makes it well formed any more

-- a first byte owes what stands in its row
abbrev pub begin : List Row → ℕ → Due
begin [] b = refused
begin (row first behind ∷ rows) b = cond (within first b) (due behind) (begin rows b)

-- a byte pays: between two sequences it begins one, inside one it must lie in the next range
abbrev pub next : Due → ℕ → Due
next (due []) b = begin table b
next (due (r ∷ rs)) b = cond (within r b) (due rs) refused
next refused b = refused

-- a text may end where it owes nothing
abbrev pub paid : Due → Bool
paid (due []) = true
paid (due (r ∷ rs)) = false
paid refused = false

-- the bytes of a text, one after the other
abbrev pub pays : Due → List ℕ → Bool
pays d [] = paid d
pays d (b ∷ s) = pays (next d b) s

-- WELL FORMED: a run of sequences, each of which matches a row of the table
unfoldable pub well_formed : List ℕ → Bool
well_formed s = pays (due []) s
