-- What a value is read from at the places of a row: the row's own header, payload and TYPE text. So a row that keeps them keeps its value, wherever it
-- is moved. From what the laws of reading say to stand at a record's places. Assumes nothing.
use Prim.Native.Nat.{ℕ, ◌≤◌, ◌<◌}
use Prim.Native.Char.{code}
use mathlib.Core.Path.{◌≡◌, refl, ap, ◌∙◌, subst}
use mathlib.Core.Logic.{◌≢◌}
use mathlib.Core.Bool.{Bool, true, false, cond}
use mathlib.Core.List.{List, [], ◌∷◌}
use native.Mathlib.Omega.{arith}
use borrow.Author.Tests.{ne_eqb, lt-ltb, le-ltb}
use lib.Dec.{eqb}
use lib.ListN.{length, drop}
use Rattle.klv.specs.declared.KLV.{KLV}
use Rattle.klv.specs.Item.{data_len, item, first_item, next_at}
use Rattle.klv.proofs.Item.{item_lengths}
use Rattle.klv.proofs.Place.{at_item, first_item_lem}
use Rattle.texts.specs.Kept.{kept}
use Rattle.reading.specs.Record.{TypeInForce, no_type, type_at, Record, type_place, no_place}
use Rattle.reading.specs.Walk.{row_item}
use Rattle.reading.proofs.Role.{Means, role_means}
use Rattle.reading.proofs.Stand.{ItemStands, TypeStands, InForceStands, Stands}
use Rattle.items.specs.At as At
use Rattle.items.specs.At.{named, type_for, found, found_by, found_at, whole_if}
use Rattle.newer_camera.specs.Rows.{moved_type, moved_by}
use Rattle.newer_camera.specs.OldReader.{text_in_force, found_for, text_for, own_value}

module _ (s : List ℕ) (within : length s ≤ 1048576) where
  -- an item that stands at a place stands first from there on, and is as long as its header says
  first : (at : ℕ) (h : KLV) (payload : List ℕ) → ItemStands s at h payload → first_item (drop at s) ≡ item h payload (drop (next_at at h) s)
  first at h payload there = first_item_lem s at h there.header ∙ ap (λ (p : List ℕ). item h p (drop (next_at at h) s)) there.payload_is

  long : (at : ℕ) (h : KLV) (payload : List ℕ) → ItemStands s at h payload → length payload ≡ data_len h
  long at h payload there = (item_lengths (drop at s) h payload (drop (next_at at h) s) (first at h payload there)).is_data

  -- the place of a TYPE is not the number that names none
  pub type_before_none : (at : ℕ) (text : List ℕ) → TypeStands s at text → at ≢ no_place
  type_before_none at text stands e = let f = (at_item s at stands.header stands.item.header).fits in omega (arith, f, within)

  -- the TYPE in force is the text named by its place
  named_there : (t : TypeInForce) → InForceStands s t → (h : KLV) → type_for h.data_type s (type_place t) ≡ named (text_for h t)
  unfolding At.type_named_at
  named_there no_type stands h = both (eqb h.data_type (code "?"))
    where
      both : (b : Bool) → cond b (named []) (named []) ≡ named (cond b [] [])
      both true = refl
      both false = refl
  named_there (type_at at text) stands h = go (eqb h.data_type (code "?"))
    where
      some : 0 < length text
      some = let l = long at stands.header text stands.item in let n = stands.not_empty in omega arith

      is : At.type_named_at s at ≡ named (kept text)
      is = rw (ne_eqb at no_place (type_before_none at text stands), first at stands.header text stands.item, stands.one_text_lem, lt-ltb 0 (length text) some)

      go : (b : Bool) → cond b (At.type_named_at s at) (named []) ≡ named (cond b (kept text) [])
      go true = is
      go false = refl

  -- WHAT IS FOUND at a row's places
  pub found_there : (r : Record) → Stands s r → found_for s r ≡ own_value r
  unfolding found_at
  found_there r stands = rw (le-ltb 1048576 (length s) within, first r.place r.content.header r.content.payload stands.item) (go r.content.payload some)
    where
      h : KLV
      h = r.content.header

      some : 0 < length r.content.payload
      some = let m : Means h row_item = subst (Means h) stands.row (role_means h) in let l = long r.place h r.content.payload stands.item in let n = m.0 in omega arith

      go : (payload : List ℕ) → 0 < length payload → found_by (item h payload (drop (next_at r.place h) s)) s r.place (type_place r.type) ≡ found h payload (text_for h r.type)
      go [] l = absurd (omega arith)
      go (b ∷ p) l = ap (λ n. whole_if n h (b ∷ p) r.place) (named_there r.type stands.type h)

-- moving a row changes no text
pub text_moved : (by : ℕ → ℕ) (t : TypeInForce) → text_in_force (moved_type by t) ≡ text_in_force t
text_moved by no_type = refl
text_moved by (type_at at text) = refl

pub value_moved : (by : ℕ → ℕ) (r : Record) → own_value (moved_by by r) ≡ own_value r
unfolding moved_by
value_moved by r = ap (λ text. found r.content.header r.content.payload (cond (eqb r.content.header.data_type (code "?")) (kept text) [])) (text_moved by r.type)
