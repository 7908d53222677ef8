-- What the code's state of a UTF-8 text stands for: in table 3-7 every range behind the second is 80 to BF. Assumes nothing: these are definitions.
use Rattle.std.specs.Prelude.{ℕ, Bool, true, ◌&&◌, List, [], ◌∷◌, ltb, replicate}
use Rattle.texts.specs.Utf8.{◌to◌, Due, due, refused}
use Rattle.utf8.specs.declared.Expected.{Expected}
use Rattle.utf8.specs.declared.Expected.TheVariants.{First, Byte, Nothing}

-- so many bytes of 80 to BF
abbrev pub owed_behind : ℕ → Due
owed_behind n = due (replicate n (0x80 to 0xBF))

-- what is owed in a state
abbrev pub owed : Expected → Due
owed First = due []
owed (Byte low high behind) = due (low to high ∷ replicate behind (0x80 to 0xBF))
owed Nothing = refused

-- every byte in the first row of the table
abbrev pub ascii : List ℕ → Bool
ascii [] = true
ascii (b ∷ s) = ltb b 0x80 && ascii s
