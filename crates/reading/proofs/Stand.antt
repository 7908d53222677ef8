-- Each record of an accepted reading says what stands at its places: its header and its payload are those of the whole item there, and the TYPE in
-- force is a whole TYPE item of one text with payload. Assumes nothing.
use Prim.Native.Nat.{ℕ, ◌-◌}
use Prim.Native.Char.{code}
use mathlib.Core.Path.{◌≡◌, refl, sym, subst}
use mathlib.Core.Logic.{◌≢◌, ⊎_elim}
use mathlib.Core.List.Memᴰ
use mathlib.Core.List.{List, [], ◌++◌, Memᴰ}
use mathlib.Core.Bool.{Bool, true, false, cond}
use native.Mathlib.Omega.{arith}
use lib.Dec.{eqb}
use lib.ListN.{length}
use Rattle.klv.specs.declared.KLV.{KLV}
use Rattle.std.specs.Prelude.{Ok}
use Rattle.klv.specs.Header.{header_at}
use Rattle.klv.specs.Item.{data_len, payload_at, end_at}
use Rattle.klv.specs.OneText.{type_text}
use Rattle.klv.specs.Level.{Level, left, broken, node, items_of}
use Rattle.reading.specs.Record.{TypeInForce, no_type, type_at, Record}
use Rattle.reading.specs.Walk.{Role, empty, container, type_item, row_item, role_of, Spot, outermost, inside, type_after, after, type_shown, accepted, walk, reading_of}
use Rattle.reading.specs.Place.{level_at}
use Rattle.reading.proofs.Payload.{read_accepted}
use Rattle.reading.proofs.Walk.{item_accepted, node_accepted}
use Rattle.reading.proofs.Place.{node_there, whole_level}
use Rattle.reading.proofs.Role.{Means, role_means}

-- a whole item with this header and this payload stands at a place
pub record ItemStands (s : List ℕ) (at : ℕ) (h : KLV) (payload : List ℕ) : Type 0 where
  pub header : header_at s at ≡ Ok h
  pub payload_is : payload_at s at h ≡ payload

-- a TYPE item whose value is one text, with this payload, which is not empty
pub record TypeStands (s : List ℕ) (at : ℕ) (text : List ℕ) : Type 0 where
  pub header : KLV
  pub item : ItemStands s at header text
  pub one_text_lem : type_text header ≡ true
  pub not_empty : data_len header ≢ 0

abbrev pub InForceStands : List ℕ → TypeInForce → Type 0
InForceStands s no_type = Unit {0}
InForceStands s (type_at at text) = TypeStands s at text

-- what a record says stands at its places
pub record Stands (s : List ℕ) (r : Record) : Type 0 where
  pub item : ItemStands s r.place r.content.header r.content.payload
  pub type : InForceStands s r.type
  -- and the item is one that makes a row
  pub row : role_of r.content.header ≡ row_item

module _ (s : List ℕ) where
  abbrev AllStand : List Record → Type 0
  AllStand rs = (r : Record) → Memᴰ r rs → Stands s r

  type_after_lem : (h : KLV) (payload : List ℕ) (here : Spot) → ItemStands s here.place h payload → InForceStands s here.type → InForceStands s (type_after (role_of h) payload here)
  type_after_lem h payload here item type = go (role_of h) (role_means h)
    where
      go : (role : Role) → Means h role → InForceStands s (type_after role payload here)
      go empty m = type
      go container m = type
      go type_item m = record { header = h; item = item; one_text_lem = m.2; not_empty = m.0 }
      go row_item m = type

  type_shown_lem : (h : KLV) (t : TypeInForce) → InForceStands s t → InForceStands s (type_shown h t)
  type_shown_lem h t stands = go (eqb h.data_type (code "?"))
    where
      go : (b : Bool) → InForceStands s (cond b t no_type)
      go true = stands
      go false = tt

  none_stand : AllStand []
  none_stand r m = absurd (Memᴰ.not-nil m)

  both_stand : (rs ts : List Record) → AllStand rs → AllStand ts → AllStand (rs ++ ts)
  both_stand rs ts a b r m = ⊎_elim (a r) (b r) (Memᴰ.append_cases rs m)

  module _ (forced : Bool) where
    -- of the walk of a level, wherever it lies in the payload
    abbrev Standing : Level → Type 0
    Standing level =
        (here : Spot) (end room : ℕ) (rs : List Record) (k : ℕ) → level_at s here.place end ≡ level → InForceStands s here.type → walk forced level here room ≡ accepted rs k → AllStand rs

    standing_node : (h : KLV) (payload : List ℕ) (within behind : Level) → Standing within → Standing behind → Standing (node h payload within behind)
    standing_node h payload within behind inner rest here end room rs k t type e =
        let n = node_there s here.place end h payload within behind t in
        let item : ItemStands s here.place h payload = record { header = n.there.whole; payload_is = n.payload_is } in
        let both = node_accepted forced h payload within here room behind rs k e in
        let first : role_of h ≡ role_of h → AllStand both.first =
        item_accepted forced h payload within here room (λ role ts j. role_of h ≡ role → AllStand ts) (λ x. none_stand) (λ x. none_stand)
        (λ some x r m. subst (Stands s) (sym (Memᴰ.eq_of_singleton m)) (record { item = item; type = type_shown_lem h here.type type; row = x }))
        (λ group ts j q x. inner (inside here group) (end_at here.place h) room ts j n.inner tt q)
        both.first both.first_headers both.is_first in
        let second = rest (after here h payload) end (room - length both.first) both.second both.second_headers n.rest (type_after_lem h payload here item type) both.is_second in
        rw both.records (both_stand both.first both.second (first refl) second)

    standing : (level : Level) → Standing level
    unfolding walk
    standing (left n) = λ here end room rs k t type e. (let none : rs ≡ [] = cc in rw none none_stand)
    standing broken = λ here end room rs k t type e. (let o : ◌≡◌ {A = ℕ} 0 1 = cc in absurd (omega arith))
    standing (node h payload within behind) = standing_node h payload within behind (standing within) (standing behind)

-- EACH RECORD of an accepted reading says what stands at its places
pub read_stands : (forced : Bool) (s : List ℕ) (room : ℕ) (rs : List Record) (headers : ℕ) → reading_of forced s room ≡ accepted rs headers → (r : Record) → Memᴰ r rs → Stands s r
read_stands forced s room rs headers e = standing s forced (items_of s) outermost (length s) room rs headers (whole_level s) tt (read_accepted forced s room rs headers e)
