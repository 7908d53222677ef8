-- The texts of a value, as the Rust's `chunks(size)` for a size above 0: document 01, Values ("one UTF-8 text per size bytes, up to its first zero").
-- Assumes nothing: these are definitions.
use Rattle.std.specs.Prelude.{ℕ, zero, suc, min, ◌<◌, ◌≤◌, ◌≡◌, Bool, true, ◌&&◌, List, [], ◌∷◌, length, take, drop}
use Rattle.foundation.specs.Fuel.{fix}
use Rattle.texts.specs.Kept.{up_to_zero}
use Rattle.texts.specs.Utf8.{well_formed}

-- the length of the next text where so many bytes are left: size, or what is left; with size 0, where no item has bytes, all is one text
abbrev pub chunk_len : ℕ → ℕ → ℕ
chunk_len zero left = left
chunk_len (suc n) left = min (suc n) left

-- what the code is told of it: it takes a byte at least, and no more than there are
pub record Chunk (size left n : ℕ) : Type 0 where
  pub is : n ≡ chunk_len size left
  pub some : 0 < n
  pub within : n ≤ left

-- the first text, and those behind it
abbrev pub step_chunks : ℕ → (List ℕ → List (List ℕ)) → List ℕ → List (List ℕ)
step_chunks size more [] = []
step_chunks size more (b ∷ s) = let n = chunk_len size (length (b ∷ s)) in take n (b ∷ s) ∷ more (drop n (b ∷ s))

-- THE TEXTS of a value, one for each size bytes; the last may be shorter
unfoldable pub chunks : ℕ → List ℕ → List (List ℕ)
chunks size s = fix length [] (step_chunks size) s

-- a text counts up to its first zero
abbrev pub is_well_formed_text : List ℕ → Bool
is_well_formed_text s = well_formed (up_to_zero s)

-- each of some texts
abbrev pub each : List (List ℕ) → Bool
each [] = true
each (t ∷ ts) = is_well_formed_text t && each ts

-- EVERY TEXT of a value is well formed
unfoldable pub are_well_formed : ℕ → List ℕ → Bool
are_well_formed size s = each (chunks size s)
