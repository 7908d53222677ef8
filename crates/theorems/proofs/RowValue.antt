-- THE VALUE OF A ROW: asked for at the places that a row of an accepted reading names, a value is that of the row's own header, payload and TYPE text.
-- So it is never refused with 1, 2 or 12: with 6, 7 or 8 by the value itself, or with 13 for a row or a column outside. From what the laws of reading say
-- to stand at a record's places. Assumes nothing.
use Prim.Native.Nat.{ℕ, ◌*◌}
use mathlib.Core.Path.{◌≡◌, refl, ◌∙◌}
use mathlib.Core.Logic.{◌⊎◌, inl, inr}
use mathlib.Core.Bool.{Bool, true, false, cond}
use mathlib.Core.List.{List, [], ◌∷◌, Memᴰ}
use lib.Dec.{leb}
use lib.ListN.{length}
use Rattle.klv.specs.declared.KLV.{KLV}
use Rattle.elements.specs.Types.{width_of}
use Rattle.texts.specs.Texts.{are_well_formed}
use Rattle.reading.specs.Record.{Record, type_place}
use Rattle.reading.specs.Walk.{accepted, reading_of}
use Rattle.reading.proofs.Payload.{accepted_within}
use Rattle.reading.proofs.Stand.{read_stands}
use Rattle.std.specs.Prelude.{ltb, Option, Some, None, Err}
use Rattle.foundation.specs.declared.refusal.Fault.TheVariants as fault
use Rattle.dates.specs.declared.fields.Day.{Day}
use Rattle.dates.specs.declared.fields.Time.{Time}
use Rattle.dates.specs.Fields.{day_of, time_of}
use Rattle.dates.specs.Date.{moment, date_of}
use Rattle.custom_type.specs.Expansion.{expanded}
use Rattle.value.specs.declared.Plan.{Plan}
use Rattle.value.specs.declared.Plan.TheVariants as plan
use Rattle.value.specs.declared.Grid.{Grid}
use Rattle.value.specs.Value.{Value, ValueOutcome, readable, refused, placed, gridded, unknown, texts, dated, widths_of, structured, structures, column_letters, plan_of, value_by, value_of}
use Rattle.items.specs.At.{found, found_at}
use Rattle.view.specs.declared.View.{View}
use Rattle.view.specs.View.{found_in}
use Rattle.parts.specs.Parts.{bytes_of_found, cut}
use Rattle.parts.proofs.Found.{bytes_are}
use Rattle.newer_camera.specs.OldReader.{text_for}
use Rattle.newer_camera.proofs.Value.{found_there}

-- a row's value: of its header, its payload and its TYPE text, and of nothing else
abbrev pub row_value : Record → ValueOutcome
row_value r = value_of r.content.header r.content.payload (text_for r.content.header r.type)

-- EACH ROW of an accepted reading leads to its own value
pub row_value_lem : (forced : Bool) (s : List ℕ) (room : ℕ) (rs : List Record) (headers : ℕ) → reading_of forced s room ≡ accepted rs headers → (r : Record) → Memᴰ r rs
    → found_at s r.place (type_place r.type) ≡ found r.content.header r.content.payload (text_for r.content.header r.type)
row_value_lem forced s room rs headers e r m = found_there s (accepted_within forced s room rs headers e) r (read_stands forced s room rs headers e r m)

-- A VIEW at a row's places shows the row's own item, and the bytes that it tells are the row's payload
module _ (forced : Bool) (s : List ℕ) (room : ℕ) (rs : List Record) (headers : ℕ) (e : reading_of forced s room ≡ accepted rs headers) (r : Record) (m : Memᴰ r rs)
    (v : View) (payload_is : v.payload.now ≡ s) (at_is : v.at ≡ r.place) (type_is : v.type_at ≡ type_place r.type) where
  pub row_viewed : found_in v ≡ found r.content.header r.content.payload (text_for r.content.header r.type)
  row_viewed = (λ i. found_at (payload_is i) (at_is i) (type_is i)) ∙ row_value_lem forced s room rs headers e r m

  pub row_bytes : cut (bytes_of_found (found_in v) v.at) v.payload.now ≡ r.content.payload
  row_bytes = bytes_are v.payload.now v.at v.type_at r.content.header r.content.payload (text_for r.content.header r.type) row_viewed

-- ---- a value itself is refused with 6, 7 or 8 only

abbrev pub OwnRefusal : ValueOutcome → Type 0
OwnRefusal (readable v) = Unit {0}
OwnRefusal (refused number) = (number ≡ 6) ⊎ (number ≡ 7) ⊎ (number ≡ 8)

-- where a test passes the value is readable, else it is refused with one of the three
own_if : (number : ℕ) → OwnRefusal (refused number) → (v : Value) (b : Bool) → OwnRefusal (cond b (readable v) (refused number))
own_if number own v true = tt
own_if number own v false = own

gridded_own : (g : Grid) (payload : List ℕ) → OwnRefusal (gridded g payload)
gridded_own g payload =
    own_if 6 (inl refl) (record { kind = g.kind; rows = g.rows; columns = λ row. g.columns; element = placed g payload })
    (leb (g.rows * g.columns * width_of g.letter) (length payload))

-- a date is refused with 6 where bytes are missing, and with 7 where what they say is not read
dated_own : (text : List ℕ) → OwnRefusal (dated (date_of text))
unfolding date_of
dated_own text = by_length (ltb (length text) 16)
  where
    by_fields : (d : Option Day) (t : Option Time) → OwnRefusal (dated (moment d t))
    by_fields (Some d) (Some t) = tt
    by_fields (Some d) None = inr (inl refl)
    by_fields None t = inr (inl refl)

    by_length : (few : Bool) → OwnRefusal (dated (cond few (Err fault.TooFew) (moment (day_of text) (time_of text))))
    by_length true = inl refl
    by_length false = by_fields (day_of text) (time_of text)

structured_own : (letters : List ℕ) (h : KLV) (payload : List ℕ) → OwnRefusal (structured letters h payload)
structured_own letters h payload = own_if 6 (inl refl) _ (leb (h.repeat * widths_of letters) (length payload))

structures_own : (type : List ℕ) (h : KLV) (payload : List ℕ) → OwnRefusal (structures type h payload)
structures_own [] h payload = gridded_own unknown payload
structures_own (c ∷ type) h payload = go (leb (length (expanded (c ∷ type))) 256)
  where
    go : (b : Bool) → OwnRefusal (cond b (structured (column_letters (expanded (c ∷ type))) h payload) (refused 8))
    go true = structured_own (column_letters (expanded (c ∷ type))) h payload
    go false = inr (inr refl)

texts_own : (h : KLV) (payload : List ℕ) → OwnRefusal (texts h payload)
texts_own h payload = own_if 7 (inr (inl refl)) _ (are_well_formed h.size payload)

pub own_refusal : (h : KLV) (payload type : List ℕ) → OwnRefusal (value_of h payload type)
own_refusal h payload type = go (plan_of h payload)
  where
    go : (p : Plan) → OwnRefusal (value_by p h payload type)
    go (plan.Even g) = gridded_own g payload
    go plan.Texts = texts_own h payload
    go plan.Date = dated_own payload
    go plan.Structures = structures_own type h payload
