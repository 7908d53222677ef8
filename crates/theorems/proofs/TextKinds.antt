-- A value has texts where its kind is Text or Texts, and nowhere else: what `row_text` says by the letter of the type. Assumes nothing.
use Prim.Native.Nat.{ℕ, ◌*◌, ◌/◌}
use Prim.Native.Char.{code}
use mathlib.Core.Path.{◌≡◌, refl, sym, ap, ◌∙◌, subst}
use mathlib.Core.Bool.{Bool, true, false, cond, not, ◌&&◌, ◌||◌}
use mathlib.Core.List.{List, [], ◌∷◌}
use native.Mathlib.Omega.{arith}
use borrow.Author.Tests.{eqb-true, eq-eqb}
use lib.Dec.{eqb, leb}
use lib.ListN.{length}
use Rattle.foundation.specs.Text.{key}
use Rattle.klv.specs.declared.KLV.{KLV}
use Rattle.klv.specs.OneText.{one_text}
use Rattle.elements.specs.Types.{width_of}
use Rattle.texts.specs.Kept.{kept}
use Rattle.texts.specs.Texts.{are_well_formed}
use Rattle.std.specs.Prelude.{Result, Ok, Err}
use Rattle.foundation.specs.declared.refusal.Fault.{Fault}
use Rattle.dates.specs.Date.{date_of}
use Rattle.custom_type.specs.Expansion.{expanded}
use Rattle.value.specs.declared.Kind.{Kind}
use Rattle.value.specs.declared.Kind.TheVariants as kind
use Rattle.value.specs.declared.Grid.{Grid}
use Rattle.value.specs.declared.Plan.{Plan}
use Rattle.value.specs.declared.Plan.TheVariants as plan
use Rattle.value.specs.Value.{Value, ValueOutcome, readable, refused, gridded, numbers, quaternions, text, identifier, unknown, text_of, dated, column_letters, widths_of, structured, structures, is_quaternions, is_one, is_nested, kind_of, letter_plan, plan_of, value_by, value_of}
use Rattle.parts.specs.Parts.{RowText, none, row_text}
use Rattle.parts.specs.Parts as Parts

abbrev pub is_text : Kind → Bool
is_text kind.Single = false
is_text kind.List = false
is_text kind.Vector = false
is_text kind.TimedVector = false
is_text kind.Nested = false
is_text kind.Text = true
is_text kind.Texts = true
is_text kind.Identifier = false
is_text kind.DateTime = false
is_text kind.Quaternions = false
is_text kind.Structures = false
is_text kind.Unknown = false

abbrev pub has_text : RowText → Bool
has_text (Parts.text before bytes) = true
has_text none = false

-- of a value that is readable, whether it is of texts
abbrev Of : Bool → ValueOutcome → Type 0
Of b (refused number) = Unit {0}
Of b (readable v) = is_text v.kind ≡ b

of_if : (b : Bool) (v : Value) (number : ℕ) → is_text v.kind ≡ b → (t : Bool) → Of b (cond t (readable v) (refused number))
of_if b v number e true = e
of_if b v number e false = tt

-- ---- by the plan
abbrev of_plan : Plan → Bool
of_plan (plan.Even g) = is_text g.kind
of_plan plan.Texts = true
of_plan plan.Date = false
of_plan plan.Structures = false

module _ (h : KLV) (payload : List ℕ) where
  of_grid : (g : Grid) → Of (is_text g.kind) (gridded g payload)
  of_grid g = of_if (is_text g.kind) _ 6 refl (leb (g.rows * g.columns * width_of g.letter) (length payload))

  of_date_lem : (d : Result ℕ Fault) → Of false (dated d)
  of_date_lem (Ok n) = refl
  of_date_lem (Err f) = tt

  of_structure : (type : List ℕ) → Of false (structures type h payload)
  of_structure [] = of_grid unknown
  of_structure (c ∷ type) = go (leb (length (expanded (c ∷ type))) 256)
    where
      go : (b : Bool) → Of false (cond b (structured (column_letters (expanded (c ∷ type))) h payload) (refused 8))
      go true = of_if false _ 6 refl (leb (h.repeat * widths_of (column_letters (expanded (c ∷ type)))) (length payload))
      go false = tt

  of_plan_lem : (type : List ℕ) (p : Plan) → Of (of_plan p) (value_by p h payload type)
  of_plan_lem type (plan.Even g) = of_grid g
  of_plan_lem type plan.Texts = of_if true _ 7 refl (are_well_formed h.size payload)
  of_plan_lem type plan.Date = of_date_lem (date_of payload)
  of_plan_lem type plan.Structures = of_structure type

-- ---- by the letter
module _ (h : KLV) (payload : List ℕ) where
  abbrev letter : ℕ
  letter = h.data_type

  abbrev is_f : Bool
  is_f = eqb letter (code "F")

  abbrev is_c : Bool
  is_c = eqb letter (code "c")

  -- a letter that is neither F nor c is of no text
  neither : is_f ≡ false → is_c ≡ false → one_text h ≡ false
  unfolding one_text
  neither f c = rw (f, c)

  -- so quaternions are not, and nothing that reads numbers
  quaternions_not : is_quaternions h ≡ true → (is_f ≡ false) × (is_c ≡ false)
  unfolding is_quaternions
  quaternions_not e = go (eqb letter (code "s")) refl e
    where
      go : (b : Bool) → eqb letter (code "s") ≡ b → (b && (eqb h.key (key "CORI") || eqb h.key (key "IORI"))) ≡ true → (is_f ≡ false) × (is_c ≡ false)
      go true k e' = let s = eqb-true letter (code "s") k in (rw s, rw s)
      go false k e' = let o : ◌≡◌ {A = ℕ} 0 1 = cc in absurd (omega arith)

  no_width : (c : ℕ) → width_of c ≡ 0 → eqb (width_of letter) 0 ≡ false → eqb letter c ≡ false
  no_width c w n = go (eqb letter c) refl
    where
      go : (b : Bool) → eqb letter c ≡ b → eqb letter c ≡ false
      go false k = k
      go true k = let zero : eqb (width_of letter) 0 ≡ true = eq-eqb (width_of letter) 0 (ap width_of (eqb-true letter c k) ∙ w) in let o : ◌≡◌ {A = ℕ} 0 1 = cc in absurd (omega arith)

  numbers_not : eqb (width_of letter) 0 ≡ false → (is_f ≡ false) × (is_c ≡ false)
  unfolding width_of
  numbers_not n = (no_width (code "F") refl n, no_width (code "c") refl n)

  numbers_of : (repeat n : ℕ) → is_text (kind_of repeat n) ≡ false
  unfolding kind_of
  numbers_of repeat n = go (is_one repeat n) (is_nested n) (eqb n 1) (eqb n 3)
    where
      go : (a b c d : Bool) → is_text (cond a kind.Single (cond b kind.Nested (cond c kind.List (cond d kind.Vector kind.TimedVector)))) ≡ false
      go true b c d = refl
      go false true c d = refl
      go false false true d = refl
      go false false false true = refl
      go false false false false = refl

  letter_of_lem : of_plan (letter_plan letter) ≡ is_c
  unfolding letter_plan
  letter_of_lem = go is_c (eqb letter (code "G")) (eqb letter (code "U")) (eqb letter (code "?"))
    where
      go : (c g u s : Bool) → of_plan (cond c plan.Texts (cond g (plan.Even identifier) (cond u plan.Date (cond s plan.Structures (plan.Even unknown))))) ≡ c
      go true g u s = refl
      go false true u s = refl
      go false false true s = refl
      go false false false true = refl
      go false false false false = refl

  plan_is : of_plan (plan_of h payload) ≡ (one_text h || is_c)
  unfolding plan_of
  plan_is = go (is_quaternions h) (eqb (width_of letter) 0) (one_text h) refl refl refl
    where
      go : (q w t : Bool) → is_quaternions h ≡ q → eqb (width_of letter) 0 ≡ w → one_text h ≡ t
          → of_plan (cond q (plan.Even (quaternions h)) (cond (not w) (plan.Even (numbers h)) (cond t (plan.Even (text payload)) (letter_plan letter)))) ≡ (t || is_c)
      go true w t q' w' t' = let n = quaternions_not q' in sym (rw (← t', neither n.0 n.1, n.1))
      go false false t q' w' t' = let n = numbers_not w' in numbers_of h.repeat (h.size / width_of letter) ∙ sym (rw (← t', neither n.0 n.1, n.1))
      go false true true q' w' t' = refl
      go false true false q' w' t' = letter_of_lem

  has_is : (row : ℕ) → has_text (row_text h payload row) ≡ (one_text h || is_c)
  unfolding row_text
  has_is row = go (one_text h) is_c
    where
      go : (t c : Bool) → has_text (cond t (Parts.text 0 (kept payload)) (cond c (Parts.text (row * h.size) (text_of h payload row)) none)) ≡ (t || c)
      go true c = refl
      go false true = refl
      go false false = refl

  -- A READABLE VALUE has a text in a row where its kind is Text or Texts
  pub text_kind : (type : List ℕ) (v : Value) → value_of h payload type ≡ readable v → (row : ℕ) → has_text (row_text h payload row) ≡ is_text v.kind
  text_kind type v e row = has_is row ∙ sym plan_is ∙ sym (subst (Of (of_plan (plan_of h payload))) e (of_plan_lem h payload type (plan_of h payload)))
