-- The number between `[` and `]` of a TYPE text: document 01, Values, Expansion ("0, 1, unreadable or over 64 bits: no copies.
-- One leading `+` is read"). Assumes nothing: these are definitions.
use Rattle.std.specs.Prelude.{ℕ, ◌^◌, Bool, cond, ◌&&◌, List, [], ◌∷◌, ltb, eqb}
use Prim.Native.Char.{code}
use Rattle.foundation.specs.Digits.{are_digits, worth}

-- decimal digits of a number that 64 bits hold (document 01: "over 64 bits: no copies")
unfoldable pub readable : List ℕ → Bool
readable s = are_digits 10 s && ltb (worth 10 s) (2 ^ 64)

-- what is left behind the one leading `+` that is read
unfoldable pub without_plus : List ℕ → List ℕ
without_plus [] = []
without_plus (c ∷ s) = cond (eqb c (code "+")) s (c ∷ s)

-- THE NUMBER that collected characters read as, 0 if they are not readable
abbrev pub number_in : List ℕ → ℕ
number_in s = cond (readable (without_plus s)) (worth 10 (without_plus s)) 0
