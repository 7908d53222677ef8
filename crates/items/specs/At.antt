-- The item at a place, with its payload and the TYPE text that it asks for: document 01, Refusal numbers, in the order 1, 12, 2.
-- Assumes nothing: these are definitions.
use Rattle.std.specs.Prelude.{ℕ, cond, ◌&&◌, List, [], ◌∷◌, eqb, ltb, length, drop}
use Prim.Native.Char.{code}
use Rattle.foundation.specs.Refusals as refusals
use Rattle.klv.specs.declared.KLV.{KLV}
use Rattle.klv.specs.Limits.{most_bytes, no_place}
use Rattle.klv.specs.Item.{header_of, First, few, past, item, first_item}
use Rattle.klv.specs.OneText.{type_text}
use Rattle.texts.specs.Kept.{kept}

-- ---- the TYPE text that a place names

-- a text, or no whole one-text TYPE with payload
pub data Named : Type 0 where
  named : List ℕ → Named
  bad : Named

-- of what stands first at that place, without its trailing zeros
abbrev pub type_of : First → Named
type_of few = bad
type_of past = bad
type_of (item h payload rest) = cond (type_text h && ltb 0 (length payload)) (named (kept payload)) bad

-- 4,294,967,295 names none
unfoldable pub type_named_at : List ℕ → ℕ → Named
type_named_at s at = cond (eqb at no_place) (named []) (type_of (first_item (drop at s)))

-- only a structure asks for it
abbrev pub type_for : ℕ → List ℕ → ℕ → Named
type_for letter s at = cond (eqb letter (code "?")) (type_named_at s at) (named [])

-- ---- the item at a place

-- a header with its payload and its TYPE text, or a refusal's number and place
pub data Found : Type 0 where
  found : KLV → List ℕ → List ℕ → Found
  stopped : ℕ → ℕ → Found

-- 12: no such TYPE at the place named; else what is answered of its text
abbrev pub unless_bad : Named → ℕ → (List ℕ → Found) → Found
unless_bad (named type) at answer = answer type
unless_bad bad at answer = stopped refusals.no_item at

-- 2: the item's payload runs past the end of what was lent
abbrev pub over_if : Named → ℕ → Found
over_if n at = unless_bad n at (λ type. stopped refusals.past_end at)

-- an item whose payload is all there, with the text of the TYPE that it asks for
abbrev pub whole_if : Named → KLV → List ℕ → ℕ → Found
whole_if n h payload at = unless_bad n at (found h payload)

-- 12: no 8 header bytes or length 0 at the place asked
abbrev pub found_by : First → List ℕ → ℕ → ℕ → Found
found_by few s at type_place = stopped refusals.no_item at
found_by past s at type_place = over_if (type_for (header_of (drop at s)).data_type s type_place) at
found_by (item h [] rest) s at type_place = stopped refusals.no_item at
found_by (item h (b ∷ payload) rest) s at type_place = whole_if (type_for h.data_type s type_place) h (b ∷ payload) at

-- 1: the payload is over the limit, at place 0
unfoldable pub found_at : List ℕ → ℕ → ℕ → Found
found_at s at type_place = cond (ltb most_bytes (length s)) (stopped refusals.too_long 0) (found_by (first_item (drop at s)) s at type_place)
