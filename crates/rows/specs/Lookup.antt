-- The last row of a group and tag. Document 01, Items and the walk: "Lookup of a group and tag finds the last such row; tag 0 also compares the
-- key." Assumes nothing: these are definitions.
use Rattle.std.specs.Prelude.{ℕ, zero, suc, Bool, cond, not, ◌&&◌, ◌||◌, List, [], ◌∷◌, Option, Some, None, Result, Ok, ltb, eqb, length, drop}
use Rattle.foundation.specs.Refusals.{no_room_left, refuse}
use Rattle.foundation.specs.declared.refusal.Refusal.{Refusal}
use Rattle.reading.specs.Record.{row_width}
use Rattle.reading.specs.Walk.{room_of}
use Rattle.rows.specs.Row.{taken}
use Rattle.rows.specs.declared.Row.{Row}

-- the first so many rows of some numbers
unfoldable pub rows_of : ℕ → List ℕ → List Row
rows_of zero s = []
rows_of (suc n) s = taken s ∷ rows_of n (drop row_width s)

-- what is found later on, or else what is found here
abbrev pub later_or : Option ℕ → Option ℕ → Option ℕ
later_or (Some n) here = Some n
later_or None here = here

-- ---- of a group (by its kind and its key), a tag and a key

module _ (group_kind group_key tag key : ℕ) where
  -- A ROW LIKE THAT: "a group and tag ..; tag 0 also compares the key"
  unfoldable pub matching : Row → Bool
  matching r = eqb r.group_kind group_kind && eqb r.group_key group_key && eqb r.tag tag && (not (eqb tag 0) || eqb r.key key)

  -- THE LAST ONE of rows, the first of which has this index
  unfoldable pub last_from : ℕ → List Row → Option ℕ
  last_from n [] = None
  last_from n (r ∷ rs) = later_or (last_from (suc n) rs) (cond (matching r) (Some n) None)

  -- THE LOOKUP in the first so many rows of lent numbers, which must have room for them: else 5 at 0 (document 01, Refusal numbers, 5:
  -- "a row, written or claimed, does not fit the room")
  unfoldable pub lookup_of : List ℕ → ℕ → Result (Option ℕ) Refusal
  lookup_of s count = cond (ltb (room_of (length s)) count) (refuse no_room_left 0) (Ok (last_from 0 (rows_of count s)))
