-- THE ITEM OF A GROUP AND A TAG, asked for in the rows of an accepted reading: that of the last such record, or nothing; so no refusal. Document 01, Items
-- and the walk: "Lookup of a group and tag finds the last such row; tag 0 also compares the key." From what the laws of reading say to stand at a record's
-- places, and those of rows in lent numbers. Assumes nothing.
use Prim.Native.Nat.{ℕ, suc, ◌+◌, ◌*◌, ◌≤◌}
use mathlib.Core.Path.{◌≡◌, refl, sym, ap, ◌∙◌}
use mathlib.Core.Bool.{Bool, true, false, cond, not, ◌&&◌, ◌||◌}
use mathlib.Core.List.{List, [], ◌∷◌, ◌++◌, map, flat_map, Memᴰ}
use native.Mathlib.Omega.{arith}
use borrow.Author.Tests.{le-ltb}
use lib.Dec.{eqb}
use lib.ListN.{length, length-append, length-drop, drop}
use lib.Seq.{drop-drop}
use Rattle.keys.specs.Keys.{tag_of}
use Rattle.klv.specs.Limits.{most_bytes, no_place}
use Rattle.reading.specs.Record.{no_type, Record, group_kind, group_key, numbers, row_width}
use Rattle.reading.specs.Walk.{accepted, reading_of, room_of}
use Rattle.reading.specs.Answer.{lent}
use Rattle.reading.proofs.Bounds.{read_bound}
use Rattle.reading.proofs.Payload.{accepted_within}
use Rattle.reading.proofs.Row.{rows_width, room_fits}
use Rattle.reading.proofs.Stand.{Stands, read_stands}
use Rattle.rows.specs.Row.{taken, row_of}
use Rattle.rows.specs.Lookup.{later_or, matching, last_from, lookup_of}
use Rattle.rows.proofs.Search.{rows_of_records}
use Rattle.items.specs.At as At
use Rattle.items.specs.At.{found_at}
use Rattle.values.specs.At.{klv_of_found}
use Rattle.tagged.specs.Tagged.{item_is, item_by, tagged_at, item_of, tagged_of}
use Rattle.tagged.specs.declared.Tagged.{Tagged}
use Rattle.klv.specs.declared.KLV.{KLV}
use Rattle.std.specs.Prelude.{Option, Some, None, Result, Ok, Err}
use Rattle.foundation.specs.declared.refusal.Refusal.{Refusal}
use Rattle.newer_camera.proofs.Value.{found_there}

-- ---- what is to be found, by the records alone

-- an item, none, or a refusal
abbrev pub Answer : Type 0
Answer = Result (Option Tagged) Refusal

-- the item of a later record, or else that of this one
abbrev pub later_item : Answer → Answer → Answer
later_item (Ok (Some found)) here = Ok (Some found)
later_item (Ok None) here = here
later_item (Err r) here = Err r

-- of a group (by its kind and its key), a tag and a key
module _ (kind of-group tag key : ℕ) where
  -- a record like that
  abbrev pub asked : Record → Bool
  asked r =
      eqb (group_kind r.content.group) kind && eqb (group_key r.content.group) of-group && eqb (tag_of r.content.header.key) tag
      && (not (eqb tag 0) || eqb r.content.header.key key)

  -- THE LAST ONE of some records: its header and its place
  abbrev pub last_item_of : List Record → Answer
  last_item_of [] = Ok None
  last_item_of (r ∷ rs) = later_item (last_item_of rs) (cond (asked r) (item_is r.content.header r.place) (Ok None))

-- ---- the proof

module _ (s : List ℕ) (within : length s ≤ most_bytes) where
  -- an item at a place is there or refused, and never nothing
  keeps : (place : ℕ) (other : Answer) → later_item (tagged_at s place) other ≡ tagged_at s place
  unfolding tagged_at
  keeps place other = go (klv_of_found (found_at s place no_place))
    where
      go : (h : Result KLV Refusal) → later_item (item_by h place) other ≡ item_by h place
      go (Ok h) = refl
      go (Err r) = refl

  -- of a record that stands there, whatever TYPE is in force
  there : (r : Record) → Stands s r → tagged_at s r.place ≡ item_is r.content.header r.place
  unfolding tagged_at
  there r stands =
      ap (λ (f : At.Found). item_by (klv_of_found f) r.place)
      (found_there s within (record { place = r.place; type = no_type; content = r.content }) (record { item = stands.item; type = tt; row = stands.row }))

  module _ (all : List ℕ) where
    abbrev item : Option ℕ → Answer
    item f = item_of s all (Ok f)

    later : (f here : Option ℕ) → item (later_or f here) ≡ later_item (item f) (item here)
    later (Some n) here = sym (keeps (row_of all n).place (item here))
    later None here = refl

    module _ (kind of-group tag key : ℕ) where
      -- the rows from an index on are those of some records
      from : (rest : List ℕ) (n : ℕ) (rs : List Record) → drop (n * row_width) all ≡ flat_map numbers rs ++ rest → ((r : Record) → Memᴰ r rs → Stands s r)
          → item (last_from kind of-group tag key n (map (λ (r : Record). taken (numbers r)) rs)) ≡ last_item_of kind of-group tag key rs
      unfolding last_from matching numbers flat_map
      from rest n [] e stand = refl
      from rest n (r ∷ rs) e stand =
          let further : suc n * row_width ≡ n * row_width + row_width = omega arith in
          let behind : drop (suc n * row_width) all ≡ flat_map numbers rs ++ rest =
          ap (λ (k : ℕ). drop k all) further ∙ sym (drop-drop row_width (n * row_width) all) ∙ ap (drop row_width) e in
          let place : (row_of all n).place ≡ r.place = ap (λ (l : List ℕ). (taken l).place) e in
          let its : tagged_at s (row_of all n).place ≡ item_is r.content.header r.place = ap (tagged_at s) place ∙ there r (stand r (Memᴰ.head refl)) in
          later (last_from kind of-group tag key (suc n) (map (λ (q : Record). taken (numbers q)) rs)) _
          ∙ (λ i. later_item (from rest (suc n) rs behind (λ q m. stand q (Memᴰ.tail m)) i) (here its (asked kind of-group tag key r) i))
        where
          here : tagged_at s (row_of all n).place ≡ item_is r.content.header r.place → (b : Bool)
              → item (cond b (Some n) None) ≡ cond b (item_is r.content.header r.place) (Ok None)
          here its true = its
          here its false = refl

-- IN THE ROWS OF AN ACCEPTED READING, as the lent numbers hold them
module _ (forced : Bool) (s old : List ℕ) (rs : List Record) (headers : ℕ) (e : reading_of forced s (room_of (length old)) ≡ accepted rs headers) where
  abbrev held : List ℕ
  held = lent (accepted rs headers) old

  fits : length rs ≤ room_of (length held)
  fits =
      let few = (read_bound forced s (room_of (length old)) rs headers e).records in
      let room = room_fits (length old) in
      let enough = room.fits in
      let long = length-append (flat_map numbers rs) (drop (length rs * row_width) old) in
      let rows = rows_width rs in
      let rest = length-drop (length rs * row_width) old in
      (room_fits (length held)).most (length rs) (omega arith) (omega (arith, room.at_most))

  pub tagged_row : (kind of-group tag key : ℕ) → tagged_of s held (length rs) kind of-group tag key ≡ last_item_of kind of-group tag key rs
  unfolding tagged_of lookup_of
  tagged_row kind of-group tag key =
      rw (
        le-ltb 1048576 (length s) (accepted_within forced s (room_of (length old)) rs headers e),
        le-ltb (room_of (length held)) (length rs) fits,
        rows_of_records rs (drop (length rs * row_width) old),
      )
      (from s (accepted_within forced s (room_of (length old)) rs headers e) held kind of-group tag key (drop (length rs * row_width) old) 0 rs refl (λ r m. read_stands forced s (room_of (length old)) rs headers e r m))
