-- What the crate's own functions ask of one another besides the definitions: that an item's numbers are of 16 bits, by
-- its letter. Assumes nothing: these are definitions.
use Rattle.std.specs.Prelude.{ℕ, List, ◌≡◌, Ok}
use Prim.Native.Char.{code}
use Rattle.klv.specs.Header.{header_at}
use Rattle.tagged.specs.declared.Tagged.{Tagged}

-- an item of the letter s that stands at its place; that its numbers have 16 bits is the lemma `has_16`
pub record HalvesStand (s : List ℕ) (t : Tagged) : Type 0 where
  pub stands : header_at s t.place ≡ Ok t.klv
  pub letter : t.klv.data_type ≡ code "s"
