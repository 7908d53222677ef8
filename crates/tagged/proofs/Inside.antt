-- The elements of the value under a header of numbers are read with the header's own letter, out of the item's payload. Assumes nothing.
use Prim.Native.Nat.{ℕ, ◌+◌, ◌*◌}
use Prim.Native.Char.{code}
use mathlib.Core.Path.{◌≡◌, refl, sym, subst}
use mathlib.Core.Bool.{Bool, true, false, cond, ◌&&◌, ◌||◌}
use mathlib.Core.List.{List, [], ◌∷◌}
use lib.Dec.{eqb, leb, ltb}
use lib.ListN.{length, drop}
use borrow.Author.Tests.{eqb-true, ne_eqb}
use Rattle.foundation.specs.Text.{key}
use Rattle.klv.specs.Item.{First, item, first_item, payload_at, next_at}
use Rattle.klv.specs.Header.{header_at}
use Rattle.klv.specs.declared.KLV.{KLV}
use Rattle.std.specs.Prelude.{Result, Ok}
use Rattle.foundation.specs.Refusals.{refuse}
use Rattle.foundation.specs.declared.refusal.Refusal.{Refusal}
use Rattle.klv.proofs.Place.{first_item_lem}
use Rattle.elements.specs.declared.Element.{Element}
use Rattle.elements.specs.Types.{width_of}
use Rattle.elements.specs.Element.{element_at}
use Rattle.value.specs.declared.Grid.{Grid}
use Rattle.value.specs.Value.{Value, readable, refused, placed, gridded, numbers, is_quaternions, quaternions, plan_of, value_of}
use Rattle.items.specs.At.{Named, named, bad, type_for, Found, stopped, whole_if, found_by, found_at}
use Rattle.value.specs.Answer.{element_in}
use Rattle.values.specs.At.{element_of_found}
use Rattle.tagged.specs.Number.{Held}
use Rattle.tagged.proofs.Laws.{first_holds}

-- the letter of quaternions is s
pub quaternions_letter : (h : KLV) → is_quaternions h ≡ true → h.data_type ≡ code "s"
unfolding is_quaternions
quaternions_letter h e = eqb-true h.data_type (code "s") (first_holds (eqb h.data_type (code "s")) (eqb h.key (key "CORI") || eqb h.key (key "IORI")) e)

module _ (Q : Element → Type 0) (at row column : ℕ) where
  -- of a grid
  module _ (g : Grid) (payload : List ℕ) (held : (k : ℕ) → Q (element_at payload k g.letter)) where
    abbrev whole : Value
    whole = record { kind = g.kind; rows = g.rows; columns = λ row. g.columns; element = placed g payload }

    there : (b : Bool) → Held Q (cond b (Ok (whole.element row column)) (refuse 13 at))
    there true = held ((row * g.columns + column) * width_of g.letter)
    there false = tt

    enough : (b : Bool) → Held Q (element_in at (cond b (readable whole) (refused 6)) row column)
    enough true = there (ltb row g.rows && ltb column g.columns)
    enough false = tt

    grid_held : Held Q (element_in at (gridded g payload) row column)
    grid_held = enough (leb (g.rows * g.columns * width_of g.letter) (length payload))

  -- of a header of numbers
  module _ (h : KLV) (wide : width_of h.data_type ≡ 0 → ⊥) (payload : List ℕ) (held : (k : ℕ) → Q (element_at payload k h.data_type)) (type : List ℕ) where
    value_held : (b : Bool) → is_quaternions h ≡ b → Held Q (element_in at (value_of h payload type) row column)
    unfolding plan_of
    value_held true e = rw e (grid_held (quaternions h) payload (λ k. subst (λ (l : ℕ). Q (element_at payload k l)) (quaternions_letter h e) (held k)))
    value_held false e = rw (e, ne_eqb (width_of h.data_type) 0 wide) (grid_held (numbers h) payload held)

-- at a place
module _ (Q : Element → Type 0) (s : List ℕ) (at : ℕ) (h : KLV) (is_item : header_at s at ≡ Ok h) (wide : width_of h.data_type ≡ 0 → ⊥) (row column : ℕ) where
  abbrev read_at_lem : Found → Result Element Refusal
  read_at_lem f = element_of_found f at row column

  module _ (held : (k : ℕ) → Q (element_at (payload_at s at h) k h.data_type)) where
    named_held : (payload : List ℕ) → ((k : ℕ) → Q (element_at payload k h.data_type)) → (t : Named) → Held Q (read_at_lem (whole_if t h payload at))
    named_held payload each (named type) = value_held Q at row column h wide payload each type (is_quaternions h) refl
    named_held payload each bad = tt

    item_held : (payload rest : List ℕ) → ((k : ℕ) → Q (element_at payload k h.data_type)) → Held Q (read_at_lem (found_by (item h payload rest) s at 4294967295))
    item_held [] rest each = tt
    item_held (b ∷ payload) rest each = named_held (b ∷ payload) each (type_for h.data_type s 4294967295)

    first_held : Held Q (read_at_lem (found_by (first_item (drop at s)) s at 4294967295))
    first_held = subst (λ (f : First). Held Q (read_at_lem (found_by f s at 4294967295))) (sym (first_item_lem s at h is_item)) (item_held (payload_at s at h) (drop (next_at at h) s) held)

    limit_held : (b : Bool) → Held Q (read_at_lem (cond b (stopped 1 0) (found_by (first_item (drop at s)) s at 4294967295)))
    limit_held true = tt
    limit_held false = first_held

    -- AN ELEMENT that was read has what each of the payload has
    pub element_held : Held Q (read_at_lem (found_at s at 4294967295))
    unfolding found_at
    element_held = limit_held (ltb 1048576 (length s))
