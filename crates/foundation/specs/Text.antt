-- A text as bytes: in a payload a byte is a character (document 01, Values: Latin-1). Assumes nothing: these are definitions.
use Rattle.std.specs.Prelude.{ℕ, List, [], ◌∷◌}
use Prim.Native.Char.{code}
use Prim.Native.String.{String}
use Rattle.foundation.specs.BigEndian.{big_endian}

-- the characters of a text, a byte for each
abbrev pub characters : String → List ℕ
characters String.[] = []
characters (String.◌∷◌ c s) = code c ∷ characters s

-- a key of four characters as one number: GPMF description, Key, length, value ("a 32-bit key")
abbrev pub key : String → ℕ
key s = big_endian (characters s)
