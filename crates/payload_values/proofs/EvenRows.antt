-- Values all of whose rows have as many columns: a row's columns are the shape's. Assumes nothing.
use Prim.Native.Nat.{ℕ, ◌*◌}
use mathlib.Core.Path.{◌≡◌, refl, ap, ◌∙◌}
use mathlib.Core.Bool.{Bool, true, false, cond}
use mathlib.Core.List.{List, [], ◌∷◌}
use lib.Dec.{leb}
use lib.ListN.{length}
use Rattle.klv.specs.declared.KLV.{KLV}
use Rattle.elements.specs.Types.{width_of}
use Rattle.foundation.specs.declared.refusal.Fault.{Fault}
use Rattle.custom_type.specs.Expansion.{expanded}
use Rattle.value.specs.declared.Grid.{Grid}
use Rattle.std.specs.Prelude.{Result, Ok, Err}
use Rattle.foundation.specs.declared.refusal.Refusal.{Refusal}
use Rattle.value.specs.declared.Shape.{Shape}
use Rattle.value.specs.Value.{ValueOutcome, readable, refused, placed, gridded, dated, column_letters, widths_of, structured, structures, unknown}
use Rattle.value.specs.Answer.{shape_in, columns_in, columns_by_shape}

module _ (place row : ℕ) where
  abbrev Even : ValueOutcome → Type 0
  Even o = columns_by_shape (shape_in place o) place row ≡ columns_in place o row

  -- so they may be read off the shape
  pub by_shape : (o : ValueOutcome) {s : Result Shape Refusal} {x : Result ℕ Refusal} → Even o → s ≡ shape_in place o → x ≡ columns_by_shape s place row → x ≡ columns_in place o row
  by_shape o even shape is = is ∙ ap (λ (s : Result Shape Refusal). columns_by_shape s place row) shape ∙ even

  either : (b : Bool) (x y : ValueOutcome) → Even x → Even y → Even (cond b x y)
  either true x y p q = p
  either false x y p q = q

  pub grid_even : (g : Grid) (payload : List ℕ) → Even (gridded g payload)
  grid_even g payload =
      either (leb (g.rows * g.columns * width_of g.letter) (length payload)) (readable (record { kind = g.kind; rows = g.rows; columns = λ r. g.columns; element = λ r c. placed g payload r c })) (refused 6) refl refl

  pub date_even : (d : Result ℕ Fault) → Even (dated d)
  date_even (Ok n) = refl
  date_even (Err f) = refl

  structured_even : (letters : List ℕ) (h : KLV) (payload : List ℕ) → Even (structured letters h payload)
  structured_even letters h payload = go (leb (h.repeat * widths_of letters) (length payload)) refl
    where
      go : (b : Bool) → leb (h.repeat * widths_of letters) (length payload) ≡ b → Even (structured letters h payload)
      go true e = rw e
      go false e = rw e

  pub structure_even : (type : List ℕ) (h : KLV) (payload : List ℕ) → Even (structures type h payload)
  structure_even [] h payload = grid_even unknown payload
  structure_even (c ∷ type) h payload =
      either (leb (length (expanded (c ∷ type))) 256) (structured (column_letters (expanded (c ∷ type))) h payload) (refused 8)
      (structured_even (column_letters (expanded (c ∷ type))) h payload) refl
