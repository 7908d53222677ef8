-- Where an item's payload and its TYPE text stand, told as places in what was lent. Assumes nothing: these are definitions.
use Rattle.std.specs.Prelude.{ℕ, ◌+◌, ◌-◌, ◌≤◌, ◌≡◌, cond, List, eqb, length, take, drop, Option, Some, None, Result, Ok, Err}
use Prim.Native.Char.{code}
use Rattle.klv.specs.Item.{header_length}
use Rattle.klv.specs.Limits.{no_place}
use Rattle.foundation.specs.declared.refusal.Refusal.{Refusal}
use Rattle.foundation.specs.Refusals.{refuse}
use Rattle.items.specs.declared.Span.{Span}
use Rattle.items.specs.declared.Item.{Item}
use Rattle.items.specs.At as At
use Rattle.items.specs.At.{Named, named, bad, found, stopped}

-- the bytes from a start to an end
abbrev pub between : ℕ → ℕ → List ℕ → List ℕ
between start end s = take (end - start) (drop start s)

-- a start and an end of a part
pub record IsPart (start end : ℕ) (s : List ℕ) : Type 0 where
  pub order : start ≤ end
  pub inside : end ≤ length s

-- ---- the TYPE text

-- the text of a TYPE begins behind its header; where 4,294,967,295 names none, at 0
abbrev pub text_at : ℕ → ℕ
text_at at = cond (eqb at no_place) 0 (at + header_length)

-- only a structure asks for it
abbrev pub text_for : ℕ → ℕ → ℕ
text_for letter at = cond (eqb letter (code "?")) (text_at at) 0

-- what places tell
abbrev pub type_told : List ℕ → Option Span → Named
type_told s (Some text) = named (between text.start text.end s)
type_told s None = bad

-- these places are places of what was lent
abbrev pub TypeInside : List ℕ → Option Span → Type 0
TypeInside s (Some text) = IsPart text.start text.end s
TypeInside s None = Unit {0}

-- the text begins at a place
abbrev pub Begins : ℕ → Option Span → Type 0
Begins from (Some text) = text.start ≡ from
Begins from None = Unit {0}

-- an answer tells a TYPE text that begins at a place
pub record TypeIs (s : List ℕ) (n : Named) (from : ℕ) (r : Option Span) : Type 0 where
  pub told : type_told s r ≡ n
  pub inside : TypeInside s r
  pub begins : Begins from r

-- ---- the item

-- the places of what was found at a place, with a TYPE at another: the payload stands behind the header
abbrev pub places_of : At.Found → ℕ → ℕ → Result Item Refusal
places_of (found h payload text) at type_place =
    Ok (record {
      klv = h;
      payload = record { start = at + header_length; end = at + header_length + length payload };
      type_text = record { start = text_for h.data_type type_place; end = text_for h.data_type type_place + length text };
    })
places_of (stopped number at) asked type_place = refuse number at

-- what places tell
abbrev pub item_told : List ℕ → Result Item Refusal → At.Found
item_told s (Ok item) = found item.klv (between item.payload.start item.payload.end s) (between item.type_text.start item.type_text.end s)
item_told s (Err r) = stopped r.number r.place

-- these places are places of what was lent
abbrev pub ItemInside : List ℕ → Result Item Refusal → Type 0
ItemInside s (Ok item) = IsPart item.payload.start item.payload.end s × IsPart item.type_text.start item.type_text.end s
ItemInside s (Err r) = Unit {0}

-- an answer is the places of what was found; for callers: they tell just that, and are places of what was lent
pub record ItemIs (s : List ℕ) (f : At.Found) (at type_place : ℕ) (r : Result Item Refusal) : Type 0 where
  pub is : r ≡ places_of f at type_place
  pub told : item_told s r ≡ f
  pub inside : ItemInside s r
