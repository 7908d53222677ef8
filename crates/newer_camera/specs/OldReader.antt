-- What an old reader makes of a newer camera's payload: demand 3 from "The result is accepted" on. Assumes nothing: these are definitions.
use Rattle.std.specs.Prelude.{ℕ, suc, ◌+◌, ◌≤◌, ◌<◌, ◌≡◌, Bool, cond, eqb, length}
use Prim.Native.Char.{code}
use mathlib.Core.List.{List, [], ◌∷◌, map, Memᴰ}
use Rattle.klv.specs.declared.KLV.{KLV}
use Rattle.klv.specs.Item.{payload_at}
use Rattle.reading.specs.Refusal.{too_long, past_end, left_over, too_deep, no_room_left, most_bytes}
use Rattle.reading.specs.Record.{TypeInForce, no_type, type_at, Record, type_place}
use Rattle.reading.specs.Walk.{Outcome, accepted, refused}
use Rattle.reading.specs.Answer.{answer}
use Rattle.texts.specs.Kept.{kept}
use Rattle.items.specs.At.{Found, found, found_at}
use Rattle.newer_camera.specs.PutIn.{PutIn}
use Rattle.newer_camera.specs.Rows.{new_rows, moved}
use Rattle.newer_camera.specs.OtherBytes.{OtherBytes, put_again}

-- ---- an old row

-- the text of the TYPE in force, empty for none
abbrev pub text_in_force : TypeInForce → List ℕ
text_in_force no_type = []
text_in_force (type_at at text) = text

-- what a value is read from at a row's places, and of what its shape, its columns and each element are told; or why there is none
abbrev pub found_for : List ℕ → Record → Found
found_for s r = found_at s r.place (type_place r.type)

-- the TYPE text that a value is read by, without its trailing zeros: only a `?` item asks for one
abbrev pub text_for : KLV → TypeInForce → List ℕ
text_for h t = cond (eqb h.data_type (code "?")) (kept (text_in_force t)) []

-- a row's own header, payload and TYPE text: its value, or the value's refusal, is of these and of nothing else
abbrev pub own_value : Record → Found
own_value r = found r.content.header r.content.payload (text_for r.content.header r.type)

-- a row r of the payload s, and what it is now in t: "with the same group, identity, type, bytes and value". Where now is r moved, content and
-- type_text hold by the definition of moving; bytes and the two values say what stands in t and s, and carry the weight
pub record Kept (s t : List ℕ) (r now : Record) : Type 0 where
  -- group, depth, header (key, type, size, repeat) and payload bytes; so a row's numbers but for its places
  pub content : now.content ≡ r.content
  -- those bytes stand at its place
  pub bytes : payload_at t now.place r.content.header ≡ r.content.payload
  pub type_text : text_in_force now.type ≡ text_in_force r.type
  -- the same value, or the same refusal of a value, at every row and column
  pub value_before : found_for s r ≡ own_value r
  pub value_now : found_for t now ≡ own_value r

-- ---- all rows

-- two lists among each other, each in its own order: nothing left out, and nothing else
pub data Among {A : Type 0} : List A → List A → List A → Type 0 where
  neither : Among [] [] []
  an_old : {r : A} {olds news rows : List A} → Among olds news rows → Among (r ∷ olds) news (r ∷ rows)
  a_new : {r : A} {olds news rows : List A} → Among olds news rows → Among olds (r ∷ news) (r ∷ rows)

-- in the order of their places, from one place up to an end: so the two lists go among each other in one way only
abbrev pub InOrder : ℕ → ℕ → List Record → Type 0
InOrder from end [] = Unit {0}
InOrder from end (r ∷ rs) = (from ≤ r.place) × (r.place < end) × InOrder (suc r.place) end rs

-- ---- the reading of t with so much room, where s was read to the rows rs; both with the group forced, or both with groups named by containers

-- "When accepted, every old record is there in the old order .. The rest is exactly one record for each new item with a payload": that the rows which the
-- reader gives are the old ones, moved by the bytes put in before them, and the new ones (rows_are) carries the weight
pub record Accepted (forced : Bool) {s t : List ℕ} (put : PutIn s t) (rs : List Record) (room : ℕ) (rows : List Record) : Type 0 where
  pub not_too_long : length t ≤ most_bytes
  pub enough_room : length rs + length (new_rows forced put) ≤ room
  pub rows_are : Among (map (moved put) rs) (new_rows forced put) rows
  pub in_order : InOrder 0 (length t) rows
  pub kept : (r : Record) → Memᴰ r rs → Kept s t r (moved put r)

-- refusal 5
pub record TooMany (forced : Bool) {s t : List ℕ} (put : PutIn s t) (rs : List Record) (room : ℕ) : Type 0 where
  pub not_too_long : length t ≤ most_bytes
  pub no_room : room < length rs + length (new_rows forced put)

-- "The result is accepted, unless it passes the length limit or the lent room; no other refusal occurs"
abbrev pub Met : Bool → {s t : List ℕ} → PutIn s t → List Record → ℕ → Outcome → Type 0
Met forced put rs room (accepted rows headers) = Accepted forced put rs room rows
Met forced {t = t} put rs room (refused too_long at) = most_bytes < length t
Met forced put rs room (refused no_room_left at) = TooMany forced put rs room
Met forced put rs room (refused past_end at) = ⊥
Met forced put rs room (refused left_over at) = ⊥
Met forced put rs room (refused too_deep at) = ⊥

-- ---- a reader, with the group forced or not: what it makes of a payload, with so much room
module _ (forced : Bool) (reads : List ℕ → ℕ → Outcome) where
  -- "Changing payload bytes of new items alters no old record": u is t with other payload bytes in new items
  pub record Unaltered {s t u : List ℕ} {put : PutIn s t} (o : OtherBytes s t put u) (rs : List Record) (room : ℕ) : Type 0 where
    -- u is met as t is
    pub met : Met forced (put_again o) rs room (reads u room)
    -- with the same old rows, places and all: so by the definition of moving, which asks for lengths only; met says that they are what is read
    pub old_rows : map (moved (put_again o)) rs ≡ map (moved put) rs
    -- and the very same numbers for every row, or the same refusal
    pub same_answer : answer (reads u room) ≡ answer (reads t room)

  -- with whatever room is lent
  pub record OldReader {s t : List ℕ} (put : PutIn s t) (rs : List Record) : Type 0 where
    pub met : (room : ℕ) → Met forced put rs room (reads t room)
    pub unaltered : {u : List ℕ} (o : OtherBytes s t put u) (room : ℕ) → Unaltered o rs room

  -- AN OLD READER MEETS A NEWER CAMERA: "Take a payload accepted .. Put new items in ..". Of a payload that a reader refuses this asks nothing: a reader that
  -- refuses everything is shut out by demand 2, and `reading_of forced`, which demand 2 settles, is the one that is shown to have this property, with either forcing
  abbrev pub MeetsNewerCameras : Type 0
  MeetsNewerCameras = (s t : List ℕ) (put : PutIn s t) (room : ℕ) (rs : List Record) (headers : ℕ) → reads s room ≡ accepted rs headers → OldReader put rs
