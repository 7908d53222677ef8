-- The item that a group has of a tag, and whether its value is one number. Document 01, Items and the walk: "Lookup of a group and tag finds the
-- last such row"; Values; Refusal numbers. Assumes nothing: these are definitions.
use Rattle.std.specs.Prelude.{ℕ, Bool, cond, ◌&&◌, Option, Some, None, Result, Ok, Err, List, eqb, ltb, length}
use Rattle.foundation.specs.Refusals.{too_long, refuse}
use Rattle.foundation.specs.declared.refusal.Refusal.{Refusal}
use Rattle.klv.specs.Limits.{most_bytes, no_place}
use Rattle.klv.specs.declared.KLV.{KLV}
use Rattle.value.specs.Value.{per_row, is_one}
use Rattle.items.specs.At.{found_at}
use Rattle.values.specs.At.{klv_of_found}
use Rattle.rows.specs.Row.{row_of}
use Rattle.rows.specs.Lookup.{lookup_of}
use Rattle.tagged.specs.declared.Tagged.{Tagged}

-- the answer by an item
abbrev pub item_is : KLV → ℕ → Result (Option Tagged) Refusal
item_is h place = Ok (Some (record { klv = h; place = place }))

-- by the header that a value at the place has, or its refusal
abbrev pub item_by : Result KLV Refusal → ℕ → Result (Option Tagged) Refusal
item_by (Ok h) place = item_is h place
item_by (Err r) place = Err r

-- the item at a place that a row names: 12 and 2 as for its value, for which no TYPE is in force
unfoldable pub tagged_at : List ℕ → ℕ → Result (Option Tagged) Refusal
tagged_at s place = item_by (klv_of_found (found_at s place no_place)) place

-- by what a lookup found
abbrev pub item_of : List ℕ → List ℕ → Result (Option ℕ) Refusal → Result (Option Tagged) Refusal
item_of s rows (Ok (Some n)) = tagged_at s (row_of rows n).place
item_of s rows (Ok None) = Ok None
item_of s rows (Err r) = Err r

-- THE ITEM of a group and a tag; 1 comes first: "payload over the limit (place 0)"
unfoldable pub tagged_of : List ℕ → List ℕ → ℕ → ℕ → ℕ → ℕ → ℕ → Result (Option Tagged) Refusal
tagged_of s rows count group_kind group_key tag key = cond (ltb most_bytes (length s)) (refuse too_long 0) (item_of s rows (lookup_of group_kind group_key tag key rows count))

-- ONE NUMBER of a letter: "With n = size / width rounded down: repeat 1 and n 1 is single" (document 01, Values); by type, size and repeat alone, so that
-- `s` under CORI or IORI, which is quaternions, may be one too
unfoldable pub one_number : KLV → ℕ → Bool
one_number h letter = eqb h.data_type letter && is_one h.repeat (per_row h)
