-- Tables of keys with numbers, written as texts that list the keys, and what stands in a table beside a key: document 01, Items and the
-- walk ("The tags stand in one constant table"). Assumes nothing: these are definitions.
use Rattle.std.specs.Prelude.{ℕ, suc, cond, List, [], ◌∷◌, map, eqb}
use Prim.Native.Char.{code}
use Prim.Native.String.{String}
use Rattle.foundation.specs.BigEndian.{big_endian}
use Rattle.foundation.specs.Text.{characters}
use Rattle.foundation.specs.Pieces.{pieces_of}
use Rattle.keys.specs.declared.Known.{Known}

-- the keys that a text lists, parted by single spaces, each as one number: GPMF description, Key, length, value ("a 32-bit key")
abbrev pub keys_in : String → List ℕ
keys_in text = map big_endian (pieces_of (code " ") (characters text))

-- keys that share one number
abbrev pub sharing : ℕ → List ℕ → List Known
sharing n keys = map (λ (k : ℕ). record { key = k; id = n }) keys

-- keys that are numbered one after another, from n
abbrev pub counted : ℕ → List ℕ → List Known
counted n [] = []
counted n (k ∷ keys) = record { key = k; id = n } ∷ counted (suc n) keys

-- what stands beside a key in a table, and 0 where the table does not have the key: document 01 ("All others are 0")
unfoldable pub found : List Known → ℕ → ℕ
found [] k = 0
found (known ∷ t) k = cond (eqb known.key k) known.id (found t k)
