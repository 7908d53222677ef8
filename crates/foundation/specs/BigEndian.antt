-- Numbers as bytes, the byte that weighs most first: GPMF description, Key, length, value ("All numbers are big-endian").
-- One definition for every width: the width is how many bytes there are. Assumes nothing: these are definitions.
use Rattle.std.specs.Prelude.{ℕ, zero, suc, ◌+◌, ◌*◌, ◌/◌, ◌%◌, ◌^◌, ◌<◌, List, [], ◌∷◌, ◌++◌, length, get_or}

-- the number that bytes stand for: each byte weighs 256 for every byte behind it
abbrev pub big_endian : List ℕ → ℕ
big_endian [] = 0
big_endian (b ∷ s) = b * 256 ^ length s + big_endian s

-- the bytes, as many as the width says, that stand for a number
abbrev pub bytes_of : ℕ → ℕ → List ℕ
bytes_of zero n = []
bytes_of (suc width) n = bytes_of width (n / 256) ++ n % 256 ∷ []

-- each is a byte, as in every slice of bytes
abbrev pub AreBytes : List ℕ → Type 0
AreBytes s = (i : ℕ) → get_or s i 0 < 256
