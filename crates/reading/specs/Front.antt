-- What the walk has made when it comes to a place: the records of the outermost items in front of it. Document 01, Refusal numbers: "The walk's
-- place is the start of the outermost item concerned." Assumes nothing: these are definitions.
use Rattle.std.specs.Prelude.{ℕ, ◌-◌, List, [], ◌++◌, Bool, cond, ltb, length}
use Rattle.klv.specs.Level.{Level, left, broken, node, items_of}
use Rattle.reading.specs.Last.{Last, none, last, stopped}
use Rattle.reading.specs.Record.{Record}
use Rattle.reading.specs.Walk.{Spot, outermost, after, Outcome, accepted, refused, walk_item}

-- the records of an item, then those of the items behind it, which have the room that it left
abbrev pub then_made : Outcome → (ℕ → List Record) → List Record
then_made (accepted rs headers) next = rs ++ next (length rs)
then_made (refused why at) next = []

-- the records of a level's items that start before a place
unfoldable pub made_before : ℕ → Bool → Level → Spot → ℕ → List Record
made_before place forced (left n) here room = []
made_before place forced broken here room = []
made_before place forced (node h payload within behind) here room =
    cond (ltb here.place place)
    (then_made (walk_item forced h payload within here room) (λ n. made_before place forced behind (after here h payload) (room - n)))
    []

-- THE RECORDS that the walk of a payload has made before a place
abbrev pub records_before : ℕ → Bool → List ℕ → ℕ → List Record
records_before place forced s room = made_before place forced (items_of s) outermost room

-- the chain ends at an item, or there is none: it is not refused
abbrev pub Told : Last → Type 0
Told none = Unit {0}
Told (last at h) = Unit {0}
Told (stopped why at) = ⊥
