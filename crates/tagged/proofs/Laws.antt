-- The item of a group and tag, by what the lookup tells, and the header that stands there; and one number, by its width. Assumes nothing.
use Prim.Native.Nat.{ℕ, ◌<◌, ◌≤◌}
use mathlib.Core.Path.{◌≡◌, refl, ap, sym, subst, ◌∙◌}
use mathlib.Core.Bool.{Bool, true, false, cond, ◌&&◌}
use mathlib.Core.List.{List, [], ◌∷◌}
use native.Mathlib.Omega.{arith}
use lib.Dec.{eqb, ltb}
use lib.ListN.{length, drop}
use borrow.Author.Tests.{ltb-true, ltb-false, eqb-true}
use Rattle.klv.specs.Item.{header_of, First, few, past, item, first_item}
use Rattle.klv.specs.Header.{told, header_at}
use Rattle.klv.specs.declared.KLV.{KLV}
use Rattle.std.specs.Prelude.{Option, Some, None, Result, Ok, Err}
use Rattle.foundation.specs.Refusals.{refuse}
use Rattle.foundation.specs.declared.refusal.Refusal.{Refusal}
use Rattle.value.specs.Value.{per_row, is_one}
use Rattle.items.specs.At.{Named, named, bad, type_for, stopped, over_if, whole_if, found_by, found_at}
use Rattle.values.specs.At.{klv_of_found}
use Rattle.reading.specs.Walk.{room_of}
use Rattle.rows.specs.Row.{row_of, row_at}
use Rattle.rows.specs.Lookup.{lookup_of}
use Rattle.rows.proofs.Laid.{has_row_lem}
use Rattle.rows.proofs.Search.{Says, Tells, lookup_says, too_many}
use Rattle.tagged.specs.Tagged.{item_is, item_by, tagged_at, item_of, tagged_of, one_number}
use Rattle.tagged.specs.declared.Tagged.{Tagged}

-- ---- of a group and a tag

-- an item is no refusal, and is something
not_refused : {r : Refusal} {place : ℕ} {h : KLV} → Err r ≡ item_is h place → ⊥
not_refused e = cc

not_nothing : {place : ℕ} {h : KLV} → Ok None ≡ item_is h place → ⊥
not_nothing e = cc

module _ (s rows : List ℕ) (count group_kind group_key tag key : ℕ) where
  abbrev asked : Result (Option Tagged) Refusal
  asked = tagged_of s rows count group_kind group_key tag key

  abbrev looked : Result (Option ℕ) Refusal
  looked = lookup_of group_kind group_key tag key rows count

  -- a row that was found lies within the room
  in_room : (n : ℕ) → looked ≡ Ok (Some n) → (b : Bool) → ltb (room_of (length rows)) count ≡ b → n < room_of (length rows)
  in_room n e true t =
      let over : looked ≡ refuse 5 0 = too_many group_kind group_key tag key rows count (ltb-true (room_of (length rows)) count t) in
      absurd (cc)
  in_room n e false t =
      let fits : count ≤ room_of (length rows) = ltb-false (room_of (length rows)) count t in
      let said : Says group_kind group_key tag key rows (Some n) count = subst (λ (f : Result (Option ℕ) Refusal). Tells group_kind group_key tag key rows f count) e (lookup_says group_kind group_key tag key rows count fits) in
      let within : n < count = said.within in
      omega arith

  pub row_there : (n : ℕ) {r : Result (Option ℕ) Refusal} → r ≡ looked → r ≡ Ok (Some n) → row_at rows n ≡ Some (row_of rows n)
  unfolding row_at
  row_there n is e = simp (has_row_lem rows n (in_room n (sym is ∙ e) (ltb (room_of (length rows)) count) refl))

  -- THE HEADER of what is answered stands at its place
  module _ (h : KLV) (place : ℕ) where
    -- by what stands first there
    type_there : (p : ℕ) (k : KLV) (payload : List ℕ) (t : Named) → header_at s p ≡ Ok k → item_by (klv_of_found (whole_if t k payload p)) p ≡ item_is h place → header_at s place ≡ Ok h
    type_there p k payload bad there e = absurd (not_refused e)
    type_there p k payload (named type) there e =
        let one : ◌≡◌ {A = Tagged} (record { klv = k; place = p }) (record { klv = h; place = place }) = cc in
        let same : k ≡ h = ap (λ (t : Tagged). t.klv) one in
        let here : p ≡ place = ap (λ (t : Tagged). t.place) one in
        ap (header_at s) (sym here) ∙ there ∙ ap Ok same

    past_there : (p : ℕ) (t : Named) → item_by (klv_of_found (over_if t p)) p ≡ item_is h place → ⊥
    past_there p bad e = not_refused e
    past_there p (named type) e = not_refused e

    first_there : (p : ℕ) (f : First) → header_at s p ≡ told f → item_by (klv_of_found (found_by f s p 4294967295)) p ≡ item_is h place → header_at s place ≡ Ok h
    first_there p few there e = absurd (not_refused e)
    first_there p past there e = absurd (past_there p (type_for (header_of (drop p s)).data_type s 4294967295) e)
    first_there p (item k [] rest) there e = absurd (not_refused e)
    first_there p (item k (b ∷ payload) rest) there e = type_there p k (b ∷ payload) (type_for k.data_type s 4294967295) there e

    header_there : (p : ℕ) → tagged_at s p ≡ item_is h place → header_at s place ≡ Ok h
    unfolding tagged_at found_at
    header_there p = go (ltb 1048576 (length s))
      where
        go : (b : Bool) → item_by (klv_of_found (cond b (stopped 1 0) (found_by (first_item (drop p s)) s p 4294967295))) p ≡ item_is h place → header_at s place ≡ Ok h
        go true e = absurd (not_refused e)
        go false e = first_there p (first_item (drop p s)) refl e

    found_there : (f : Result (Option ℕ) Refusal) → item_of s rows f ≡ item_is h place → header_at s place ≡ Ok h
    found_there (Ok (Some n)) e = header_there (row_of rows n).place e
    found_there (Ok None) e = absurd (not_nothing e)
    found_there (Err r) e = absurd (not_refused e)

    limit_there : (b : Bool) → cond b (refuse 1 0) (item_of s rows looked) ≡ item_is h place → header_at s place ≡ Ok h
    limit_there true e = absurd (not_refused e)
    limit_there false e = found_there looked e

    pub item_there : {r : Result (Option Tagged) Refusal} → r ≡ asked → r ≡ item_is h place → header_at s place ≡ Ok h
    unfolding tagged_of
    item_there is e = limit_there (ltb 1048576 (length s)) (sym is ∙ e)

-- ---- one number

-- the first of two tests that both hold
pub first_holds : (a b : Bool) → a && b ≡ true → a ≡ true
first_holds true b e = refl
first_holds false b e = e

-- one number of a letter is of that letter
pub number_letter : (h : KLV) (letter : ℕ) → one_number h letter ≡ true → h.data_type ≡ letter
unfolding one_number
number_letter h letter e = eqb-true h.data_type letter (first_holds (eqb h.data_type letter) (is_one h.repeat (per_row h)) e)
