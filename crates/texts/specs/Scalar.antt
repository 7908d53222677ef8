-- Scalar values and their UTF-8 bytes: the Unicode Standard, D76, "Unicode scalar value", and table 3-6, "UTF-8 Bit Distribution".
-- No promise cites them: the well-formed texts are shown to be exactly the encoded lists of scalar values. Assumes nothing: these are definitions.
use Rattle.std.specs.Prelude.{ℕ, ◌+◌, ◌/◌, ◌%◌, ◌≤◌, ◌≡◌, cond, List, [], ◌∷◌, ◌++◌, leb}

-- every code point that is no surrogate: "0 to D7FF and E000 to 10FFFF"
pub data Scalar (c : ℕ) : Type 0 where
  below : c ≤ 0xD7FF → Scalar c
  above : 0xE000 ≤ c → c ≤ 0x10FFFF → Scalar c

-- a list of them
pub data Scalars : List ℕ → Type 0 where
  none : Scalars []
  more : {c : ℕ} {cs : List ℕ} → Scalar c → Scalars cs → Scalars (c ∷ cs)

-- 10xxxxxx: the last six bits of a number
abbrev pub trailing : ℕ → ℕ
trailing n = 0x80 + n % 64

-- the bytes of a scalar value, by the shortest line that has its bits
unfoldable pub encode : ℕ → List ℕ
encode c =
    cond (leb c 0x7F) (c ∷ [])
    (cond (leb c 0x7FF) ((0xC0 + c / 64) ∷ trailing c ∷ [])
    (cond (leb c 0xFFFF) ((0xE0 + c / 4096) ∷ trailing (c / 64) ∷ trailing c ∷ [])
    ((0xF0 + c / 262144) ∷ trailing (c / 4096) ∷ trailing (c / 64) ∷ trailing c ∷ [])))

-- the bytes of a list
abbrev pub encoded : List ℕ → List ℕ
encoded [] = []
encoded (c ∷ cs) = encode c ++ encoded cs

-- the scalar values that a text encodes
pub record Encoded (s : List ℕ) : Type 0 where
  pub values : List ℕ
  pub scalars : Scalars values
  pub is : s ≡ encoded values
