-- The rows of a payload into which items were put: the old rows, moved, and the new items' own. Demand 3: "every old record is there .. The rest is
-- exactly one record for each new item with a payload, in the group of its level." Assumes nothing: these are definitions.
use Rattle.std.specs.Prelude.{ℕ, ◌+◌, Bool, true, false, cond, List, [], ◌∷◌, ◌++◌, leb}
use Rattle.klv.specs.declared.KLV.{KLV}
use Rattle.klv.specs.Item.{header_length, data_len, aligned, next_at}
use Rattle.klv.specs.Level.{items_of}
use Rattle.reading.specs.Last.{Last, none, last, stopped, last_item}
use Rattle.reading.specs.Record.{Group, named, TypeInForce, no_type, type_at, Record}
use Rattle.reading.specs.Walk as Walk
use Rattle.reading.specs.Walk.{Spot, outermost, after, record_of}
use Rattle.newer_camera.specs.PutIn.{PutIn, nothing, new, behind, inside}

-- ---- the new items' rows

-- "the group of its level": in a container named by the key of its last item, here of the old payload (document 01, Items and the walk)
abbrev pub key_of : Last → ℕ
key_of none = 0
key_of (last at h) = h.key
key_of (stopped why at) = 0

-- the group of the items in a container's payload: named by its last item; "with a forced group, the caller's group holds throughout", which is that around it
abbrev pub group_in : Bool → Group → List ℕ → Group
group_in true around payload = around
group_in false around payload = named (key_of (last_item (items_of payload) 0))

-- "exactly one record for each new item with a payload"
abbrev pub own_row : Spot → KLV → List ℕ → List Record
own_row here h [] = []
own_row here h (b ∷ payload) = record_of here h (b ∷ payload) ∷ []

-- of a level whose bytes after putting in stand at a spot
unfoldable pub rows_from : Bool → {s t : List ℕ} → PutIn s t → Spot → List Record
rows_from forced nothing here = []
rows_from forced (new {h = h} {payload = payload} i front put) here = own_row here h payload ++ rows_from forced put (after here h payload)
rows_from forced (behind {h = h} {payload = payload} i put) here = rows_from forced put (after here h payload)
rows_from forced (inside {g = g} {payload = payload} {grown = grown} i m within put) here =
    rows_from forced within (Walk.inside here (group_in forced here.group payload)) ++ rows_from forced put (after here g grown)

-- THE NEW ROWS of a payload
abbrev pub new_rows : Bool → {s t : List ℕ} → PutIn s t → List Record
new_rows forced put = rows_from forced put outermost

-- ---- the old rows

-- the bytes put in at or before a place, where the level's bytes before putting in start at another
unfoldable pub put_before : {s t : List ℕ} → PutIn s t → ℕ → ℕ → ℕ
put_before nothing from place = 0
put_before (new {h = h} i front put) from place = cond (leb from place) (header_length + aligned (data_len h)) 0 + put_before put from place
put_before (behind {h = h} i put) from place = put_before put (next_at from h) place
put_before (inside {h = h} i m within put) from place = put_before within (from + header_length) place + put_before put (next_at from h) place

-- the place of the TYPE in force, moved
abbrev pub moved_type : (ℕ → ℕ) → TypeInForce → TypeInForce
moved_type by no_type = no_type
moved_type by (type_at at text) = type_at (at + by at) text

-- a row whose places are moved by so much each: its own and that of the TYPE in force, and nothing else
unfoldable pub moved_by : (ℕ → ℕ) → Record → Record
moved_by by r = record { place = r.place + by r.place; type = moved_type by r.type; content = r.content }

-- AN OLD ROW, moved by the bytes put in at or before its places
abbrev pub moved : {s t : List ℕ} → PutIn s t → Record → Record
moved put r = moved_by (put_before put 0) r
