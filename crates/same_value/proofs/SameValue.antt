-- THE SAME VALUE at every row and column: of an old row before, and of the same row among new ones. From what a row keeps: at its places its own value
-- is found, before and now. Assumes nothing.
use Prim.Native.Nat.{ℕ}
use mathlib.Core.Path.{◌≡◌, refl}
use mathlib.Core.Bool.{Bool, true, false, cond, ◌&&◌}
use mathlib.Core.List.{List, Memᴰ}
use lib.Dec.{ltb}
use Rattle.reading.specs.Record.{Record}
use Rattle.std.specs.Prelude.{Ok}
use Rattle.foundation.specs.Refusals.{refuse}
use Rattle.value.specs.Value.{ValueOutcome, readable, refused, value_of}
use Rattle.value.specs.Answer.{element_in, shape_in, columns_in}
use Rattle.newer_camera.specs.PutIn.{PutIn}
use Rattle.newer_camera.specs.Rows.{moved}
use Rattle.newer_camera.specs.OldReader.{text_for, Kept, Accepted}
use Rattle.same_value.specs.SameValue.{element_at_place, shape_at_place, columns_at_place, SameValue}

-- one value asked for at two places
module _ (at place : ℕ) where
  element_told : (o : ValueOutcome) (row column : ℕ) → element_in place o row column ≡ element_at_place (element_in at o row column) place
  element_told (refused number) row column = refl
  element_told (readable v) row column = go (ltb row v.rows && ltb column (v.columns row))
    where
      go : (b : Bool) → cond b (Ok (v.element row column)) (refuse 13 place) ≡ element_at_place (cond b (Ok (v.element row column)) (refuse 13 at)) place
      go true = refl
      go false = refl

  shape_told : (o : ValueOutcome) → shape_in place o ≡ shape_at_place (shape_in at o) place
  shape_told (refused number) = refl
  shape_told (readable v) = refl

  columns_told : (o : ValueOutcome) (row : ℕ) → columns_in place o row ≡ columns_at_place (columns_in at o row) place
  columns_told (refused number) row = refl
  columns_told (readable v) row = go (ltb row v.rows)
    where
      go : (b : Bool) → cond b (Ok (v.columns row)) (refuse 13 place) ≡ columns_at_place (cond b (Ok (v.columns row)) (refuse 13 at)) place
      go true = refl
      go false = refl

-- of a row that is kept
pub kept_value : {s t : List ℕ} {r now : Record} → Kept s t r now → SameValue s t r now
kept_value {r = r} {now = now} k =
    record {
      element = λ row column. rw (k.value_now, k.value_before) (element_told r.place now.place value row column);
      shape = rw (k.value_now, k.value_before) (shape_told r.place now.place value);
      columns = λ row. rw (k.value_now, k.value_before) (columns_told r.place now.place value row);
    }
  where
    value : ValueOutcome
    value = value_of r.content.header r.content.payload (text_for r.content.header r.type)

-- OF EACH OLD ROW of a payload that is accepted with new items
pub same_value : (forced : Bool) {s t : List ℕ} (put : PutIn s t) (rs : List Record) (room : ℕ) (rows : List Record) → Accepted forced put rs room rows → (r : Record) → Memᴰ r rs → SameValue s t r (moved put r)
same_value forced put rs room rows a r m = kept_value (a.kept r m)
