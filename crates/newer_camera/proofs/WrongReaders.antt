-- Readers that do not meet newer cameras, each with the payload that shows it: the right reader, changed in one thing. Assumes nothing.
use Prim.Native.Nat.{ℕ, suc, ◌+◌, ◌-◌}
use mathlib.Core.Path.{◌≡◌, refl, subst}
use mathlib.Core.Logic.{◌≢◌}
use mathlib.Core.Bool.{Bool, true, false, cond, not, ◌||◌}
use mathlib.Core.List.{List, [], ◌∷◌, map}
use native.Mathlib.Omega.{arith}
use lib.Dec.{eqb}
use lib.ListN.{length}
use Rattle.foundation.specs.Fuel.{run, fix}
use Rattle.foundation.specs.Text.{key}
use Rattle.keys.specs.Keys.{tags, tag_of}
use Rattle.keys.specs.Table.{found}
use Rattle.klv.specs.declared.KLV.{KLV}
use Rattle.klv.specs.Item.{first_item, aligned}
use Rattle.klv.specs.Level.{Level, left, broken, node, items_of}
use Rattle.klv.specs.OneText.{one_text, type_text}
use Rattle.reading.specs.Last.{Last, last, last_item}
use Rattle.reading.specs.Refusal.{past_end, left_over}
use Rattle.reading.specs.Record.{Group, TypeInForce, no_type, type_at, Record, type_place, group_key}
use Rattle.reading.specs.Walk.{role_of, item_headers, Spot, outermost, after, Outcome, accepted, refused, and_then, item_outcome, walk, reading_of}
use Rattle.newer_camera.specs.PutIn.{PutIn}
use Rattle.newer_camera.specs.Rows.{rows_from, new_rows, put_before, moved_by, moved}
use Rattle.newer_camera.specs.OldReader.{Among, neither, an_old, a_new, Met, MeetsNewerCameras}
use Rattle.newer_camera.proofs.Samples.{twelve, newer, in_twelve, in_cushioned, in_described}

-- ---- the readers

abbrev on_rows : (List Record → Outcome) → Outcome → Outcome
on_rows f (accepted rs headers) = f rs
on_rows f (refused why at) = refused why at

-- the right reading, with something else made of its rows
abbrev pub reading_with : (List Record → Outcome) → List ℕ → ℕ → Outcome
reading_with f s room = on_rows f (reading_of false s room)

-- accepted, with other rows
abbrev pub made : (List Record → List Record) → List Record → Outcome
made f rs = accepted (f rs) 0

-- a row whose key has no tag
abbrev unknown : Record → Bool
unknown r = eqb (tag_of r.content.header.key) 0

-- one that refuses what it does not know
abbrev pub refusing : List Record → Outcome
refusing [] = accepted [] 0
refusing (r ∷ rs) = cond (unknown r) (refused left_over 0) (refusing rs)

-- one that leaves it out
abbrev pub leaving_out : List Record → List Record
leaving_out [] = []
leaving_out (r ∷ rs) = cond (unknown r) (leaving_out rs) (r ∷ leaving_out rs)

abbrev with_group_and_depth : Group → ℕ → Record → Record
with_group_and_depth group depth r =
    record { place = r.place; type = r.type; content = record { group = group; depth = depth; header = r.content.header; payload = r.content.payload } }

-- one whose rows carry their ordinals
abbrev pub counting : ℕ → List Record → List Record
counting n [] = []
counting n (r ∷ rs) = with_group_and_depth r.content.group n r ∷ counting (suc n) rs

-- one that forgets a TYPE at the next item
abbrev right_behind : ℕ → TypeInForce → TypeInForce
right_behind place no_type = no_type
right_behind place (type_at at text) = cond (eqb (at + 8 + aligned (length text)) place) (type_at at text) no_type

abbrev pub forgetting : List Record → List Record
forgetting rs = map (λ (r : Record). record { place = r.place; type = right_behind r.place r.type; content = r.content }) rs

-- the right walk of a level, but for the items that it goes on behind, and for the item of a container that names the group
module _ (goesOn : KLV → Bool) (naming : Level → ℕ → Last) where
  unfoldable pub other_walk : Level → Spot → ℕ → Outcome
  other_walk (left n) here room = accepted [] 0
  other_walk broken here room = refused past_end here.place
  other_walk (node h payload within behind) here room =
      and_then (item_outcome item_headers false h payload (naming within (here.place + 8)) (other_walk within) here room)
      (λ n. cond (goesOn h) (other_walk behind (after here h payload) (room - n)) (accepted [] 0))

  abbrev pub walking : List ℕ → ℕ → Outcome
  walking s room = other_walk (items_of s) outermost room

-- going on behind each, and named by the last, it is the right walk
pub right_walk : (level : Level) (here : Spot) (room : ℕ) → other_walk (λ h. true) last_item level here room ≡ walk false level here room
unfolding other_walk walk
right_walk (left n) here room = refl
right_walk broken here room = refl
right_walk (node h payload within behind) here room =
    λ i. and_then
    (item_outcome item_headers false h payload (last_item within (here.place + 8)) (λ x m. right_walk within x m i) here room)
    (λ n. right_walk behind (after here h payload) (room - n) i)

-- one for which an item that it does not know ends the level
abbrev pub known : KLV → Bool
known h = eqb h.data_type 0 || not (eqb (tag_of h.key) 0)

abbrev pub ending : List ℕ → ℕ → Outcome
ending = walking known last_item

-- one that names a group by the container's first item
abbrev pub first_named : Level → ℕ → Last
first_named (left n) at = last_item (left n) at
first_named broken at = last_item broken at
first_named (node h payload within behind) at = last at h

abbrev pub by_first : List ℕ → ℕ → Outcome
by_first = walking (λ h. true) first_named

-- ---- what shows it: anything counted over all rows is what the old and the new rows come to

abbrev total : (Record → ℕ) → List Record → ℕ
total f [] = 0
total f (r ∷ rs) = f r + total f rs

among_total : (f : Record → ℕ) {olds news rows : List Record} → Among olds news rows → total f rows ≡ total f olds + total f news
among_total f neither = refl
among_total f (an_old m) = let e = among_total f m in omega arith
among_total f (a_new m) = let e = among_total f m in omega arith

shows : (forced : Bool) (reads : List ℕ → ℕ → Outcome) {s t : List ℕ} (put : PutIn s t) (room : ℕ) (rs rows : List Record) (j k : ℕ) (f : Record → ℕ) → reads s room ≡ accepted rs j → reads t room ≡ accepted rows k
    → total f rows ≢ total f (map (moved put) rs) + total f (new_rows forced put) → MeetsNewerCameras forced reads → ⊥
shows forced reads {s = s} {t = t} put room rs rows j k f before after no_sum meets =
    no_sum (among_total f (subst (λ (o : Outcome). Met forced put rs room o) after ((meets s t put room rs j before).met room)).rows_are)

-- the group key of an old row of case 12's payload, and nothing of any other
abbrev group_of_scale : Record → ℕ
group_of_scale r = cond (eqb r.content.header.key (key "SCAL")) (group_key r.content.group) 0

-- THEY ARE SHUT OUT
pub record ShutOut : Type 0 where
  pub refusing_out : MeetsNewerCameras false (reading_with refusing) → ⊥
  pub leaving_out_lem : MeetsNewerCameras false (reading_with (made leaving_out)) → ⊥
  pub ending_out : MeetsNewerCameras false ending → ⊥
  pub counting_out : MeetsNewerCameras false (reading_with (made (counting 0))) → ⊥
  pub by_first_out : MeetsNewerCameras false by_first → ⊥
  pub forgetting_out : MeetsNewerCameras false (reading_with (made forgetting)) → ⊥
  pub not_forced_out : MeetsNewerCameras true (reading_of false) → ⊥  -- one that names groups although one is forced

pub shut_out : ShutOut
unfolding fix run found tags first_item items_of one_text type_text last_item role_of item_outcome walk other_walk reading_of rows_from put_before moved_by
shut_out =
    record {
      refusing_out = λ meets. (meets twelve newer in_twelve 4 _ _ refl).met 4;
      leaving_out_lem = shows false (reading_with (made leaving_out)) in_twelve 4 _ _ _ _ (λ (r : Record). 1) refl refl (λ z. omega arith);
      ending_out = shows false ending in_cushioned 3 _ _ _ _ (λ (r : Record). 1) refl refl (λ z. omega arith);
      counting_out = shows false (reading_with (made (counting 0))) in_described 3 _ _ _ _ (λ (r : Record). r.content.depth) refl refl (λ z. omega arith);
      by_first_out = shows false by_first in_twelve 4 _ _ _ _ group_of_scale refl refl (λ z. omega arith);
      forgetting_out = shows false (reading_with (made forgetting)) in_described 3 _ _ _ _ (λ (r : Record). type_place r.type) refl refl (λ z. omega arith);
      not_forced_out = shows true (reading_of false) in_twelve 4 _ _ _ _ (λ (r : Record). group_key r.content.group) refl refl (λ z. omega arith);
    }
