-- Values that are texts: which they are, by the letter; and that the kept bytes of each stand where its part says. Assumes nothing.
use Prim.Native.Nat.{ℕ, ◌+◌, ◌-◌, ◌*◌, ◌<◌, ◌≤◌}
use Prim.Native.Char.{code}
use mathlib.Core.Path.{◌≡◌, refl, sym, ap, ◌∙◌, subst}
use mathlib.Core.Bool.{Bool, true, false, cond, ◌&&◌, ◌||◌}
use mathlib.Core.List.{List}
use native.Mathlib.Decide.{dec_le}
use native.Mathlib.Nat.{mul_comm, mul-le-mul_right}
use native.Mathlib.Omega.{arith}
use borrow.Author.Tests.{eqb-true, eq-eqb, ne_eqb, lt-ltb, ltb-true}
use lib.Dec.{eqb, leb, ltb}
use lib.ListN.{length, take, drop, length-take, length-drop}
use lib.Seq.{drop-drop, take-take}
use Rattle.foundation.proofs.Parts.{drop_take}
use Rattle.klv.specs.declared.KLV.{KLV}
use Rattle.klv.specs.Item.{data_len}
use Rattle.klv.specs.OneText.{one_text}
use Rattle.elements.specs.Types.{width_of}
use Rattle.texts.specs.Kept.{kept}
use Rattle.texts.specs.Texts.{are_well_formed}
use Rattle.texts.proofs.Kept.{kept_front, up_to_zero_front, up_to_zero_length}
use Rattle.std.specs.Prelude.{Result, Ok}
use Rattle.foundation.specs.declared.refusal.Refusal.{Refusal}
use Rattle.foundation.specs.Refusals.{refuse}
use Rattle.value.specs.declared.Plan.TheVariants.{Even}
use Rattle.value.specs.Value.{Value, ValueOutcome, readable, refused, gridded, text, texts, text_of, is_quaternions, letter_plan, plan_of, value_by, value_of}
use Rattle.items.specs.At.{Found, found, found_at}
use Rattle.value.specs.Answer.{columns_in}
use Rattle.parts.specs.declared.Part.{Part}
use Rattle.parts.specs.Parts.{placed, none, row_text, part_of, text_in, text_of_found, text_by, SmallRow, bytes_from}
use Rattle.parts.specs.Parts as Parts
use Rattle.parts.proofs.Found.{StandsAt, stands}

-- ---- by the letter
module _ (h : KLV) (payload type : List ℕ) where
  -- one text is F or c
  f_or_c : one_text h ≡ true → (P : Type 0) → (h.data_type ≡ code "F" → P) → (h.data_type ≡ code "c" → P) → P
  unfolding one_text
  f_or_c e P f g = go (eqb h.data_type (code "F")) (eqb h.data_type (code "c")) refl refl e
    where
      go : (a b : Bool) → eqb h.data_type (code "F") ≡ a → eqb h.data_type (code "c") ≡ b → (a || b && (eqb h.repeat 1 || eqb h.size 1)) ≡ true → P
      go true b k l e' = f (eqb-true h.data_type (code "F") k)
      go false true k l e' = g (eqb-true h.data_type (code "c") l)
      go false false k l e' = let o : ◌≡◌ {A = ℕ} 0 1 = cc in absurd (omega arith)

  -- neither is a quaternion, and neither reads numbers
  by_letter : (letter : ℕ) → h.data_type ≡ letter → eqb letter (code "s") ≡ false → width_of letter ≡ 0
      → value_of h payload type ≡ value_by (cond (one_text h) (Even (text payload)) (letter_plan letter)) h payload type
  unfolding plan_of is_quaternions
  by_letter letter e s w = rw (e, s, w)

  pub one_text_value : one_text h ≡ true → value_of h payload type ≡ gridded (text payload) payload
  unfolding width_of
  one_text_value e = f_or_c e (value_of h payload type ≡ gridded (text payload) payload) (λ k. by_letter (code "F") k refl refl ∙ rw e) (λ k. by_letter (code "c") k refl refl ∙ rw e)

  pub texts_value : one_text h ≡ false → h.data_type ≡ code "c" → value_of h payload type ≡ texts h payload
  unfolding width_of letter_plan
  texts_value e k = by_letter (code "c") k refl refl ∙ rw e

-- a row's part by its columns, in the three cases
module _ (h : KLV) (at row n : ℕ) where
  pub part_one : one_text h ≡ true → placed (at + 8) n ≡ text_by h (Ok n) at row
  part_one t = rw t

  pub part_several : one_text h ≡ false → h.data_type ≡ code "c" → (size : ℕ) → size ≡ h.size → placed (at + 8 + row * size) n ≡ text_by h (Ok n) at row
  part_several t k size e = rw (t, eq-eqb h.data_type (code "c") k, e)

  pub part_none : one_text h ≡ false → (h.data_type ≡ code "c" → ⊥) → refuse 13 at ≡ text_by h (Ok n) at row
  part_none t k = rw (t, ne_eqb h.data_type (code "c") k)

-- ---- the rows of texts, and the columns of each
module _ (h : KLV) (payload type : List ℕ) (row : ℕ) where
  abbrev value : ValueOutcome
  value = value_of h payload type

  -- so many rows, and so many columns in this one, where the value is readable
  abbrev Has : ℕ → ℕ → ValueOutcome → Type 0
  Has rows n (refused number) = Unit {0}
  Has rows n (readable v) = (v.rows ≡ rows) × (v.columns row ≡ n)

  has_if : (rows n number : ℕ) (v : Value) → Has rows n (readable v) → (b : Bool) → Has rows n (cond b (readable v) (refused number))
  has_if rows n number v there true = there
  has_if rows n number v there false = tt

  one_text_has : one_text h ≡ true → Has 1 (length (kept payload)) value
  one_text_has e =
      subst (Has 1 (length (kept payload))) (sym (one_text_value h payload type e))
      (has_if 1 (length (kept payload)) 6 _ (refl, refl) (leb (1 * length (kept payload) * width_of (code "B")) (length payload)))

  texts_have : one_text h ≡ false → h.data_type ≡ code "c" → Has h.repeat (length (text_of h payload row)) value
  texts_have e k =
      subst (Has h.repeat (length (text_of h payload row))) (sym (texts_value h payload type e k))
      (has_if h.repeat (length (text_of h payload row)) 7 _ (refl, refl) (are_well_formed h.size payload))

  -- the texts before that of a row are no more than the payload
  pub few_before : (o : ValueOutcome) → value ≡ o → (at : ℕ) → data_len h ≤ 1048576 → SmallRow h (columns_in at o row) row
  few_before (refused number) e at most = tt
  few_before (readable v) e at most = go (ltb row v.rows) refl
    where
      less : row < v.rows → h.data_type ≡ code "c" → row * h.size ≤ 1048576
      less inside c = by_text (one_text h) refl
        where
          by_text : (b : Bool) → one_text h ≡ b → row * h.size ≤ 1048576
          by_text true t =
              let none : row ≡ 0 = omega (arith, (subst (Has 1 (length (kept payload))) e (one_text_has t)).0) in
              rw none (omega arith)
          by_text false t =
              let rows : row ≤ h.repeat = omega (arith, (subst (Has h.repeat (length (text_of h payload row))) e (texts_have t c)).0) in
              let less : row * h.size ≤ h.repeat * h.size = mul-le-mul_right h.size rows in
              omega (arith, mul_comm h.repeat h.size)

      go : (b : Bool) → ltb row v.rows ≡ b → SmallRow h (cond b (Ok (v.columns row)) (refuse 13 at)) row
      go true inside = less (ltb-true row v.rows inside)
      go false inside = tt

  -- BY THE COLUMNS of a row: the part of its text is the defined one
  module _ (at : ℕ) where
    one_part : (b c : Bool) → one_text h ≡ b → eqb h.data_type (code "c") ≡ c → (v : Value) → value ≡ readable v
        → text_by h (Ok (v.columns row)) at row ≡ part_of (row_text h payload row) at
    unfolding row_text
    one_part true c t k v e =
        let n = (subst (Has 1 (length (kept payload))) e (one_text_has t)).1 in
        let start : at + 8 ≡ at + 8 + 0 = omega arith in
        rw t (λ i. placed (start i) (n i))
    one_part false true t k v e =
        let n = (subst (Has h.repeat (length (text_of h payload row))) e (texts_have t (eqb-true h.data_type (code "c") k))).1 in
        rw (t, k) (ap (placed (at + 8 + row * h.size)) n)
    one_part false false t k v e = rw (t, k)

    pub by_columns : (o : ValueOutcome) → value ≡ o → text_by h (columns_in at o row) at row ≡ text_in at h payload o row
    by_columns (refused number) e = refl
    by_columns (readable v) e = go (ltb row v.rows)
      where
        go : (b : Bool) → text_by h (cond b (Ok (v.columns row)) (refuse 13 at)) at row ≡ cond b (part_of (row_text h payload row) at) (refuse 13 at)
        go true = one_part (one_text h) (eqb h.data_type (code "c")) refl refl v e
        go false = refl

-- ---- where a text stands

-- a front of what stands within a part is a front of what stands there
front_within : (k o n : ℕ) (s : List ℕ) → k ≤ length (drop o (take n s)) → take k (drop o (take n s)) ≡ take k (drop o s)
front_within k o n s h = go (dec_le o n)
  where
    go : Dec (o ≤ n) → take k (drop o (take n s)) ≡ take k (drop o s)
    go (yes l) =
        let up : n ≡ o + (n - o) = omega arith in
        let inner : drop o (take n s) ≡ take (n - o) (drop o s) = ap (λ (m : ℕ). drop o (take m s)) up ∙ drop_take o (n - o) s in
        ap (take k) inner ∙ take-take k (n - o) (drop o s) (omega (arith, ap length inner, length-take (n - o) (drop o s)))
    go (no l) =
        let none : k ≡ 0 = omega (arith, length-drop o (take n s), length-take n s) in
        rw none

module _ (h : KLV) (payload : List ℕ) (row before : ℕ) (bytes : List ℕ) where
  -- what holds of one text and of each of several holds of any
  by_text : (P : ℕ → List ℕ → Type 0) → (one_text h ≡ true → P 0 (kept payload)) → (one_text h ≡ false → h.data_type ≡ code "c" → P (row * h.size) (text_of h payload row))
      → row_text h payload row ≡ Parts.text before bytes → P before bytes
  unfolding row_text
  by_text P one several e = go (one_text h) (eqb h.data_type (code "c")) refl refl e
    where
      go : (a b : Bool) → one_text h ≡ a → eqb h.data_type (code "c") ≡ b → cond a (Parts.text 0 (kept payload)) (cond b (Parts.text (row * h.size) (text_of h payload row)) none) ≡ Parts.text before bytes → P before bytes
      go true b t c k = let o : 0 ≡ before = cc in let is : kept payload ≡ bytes = cc in subst (λ (x : ℕ). P x bytes) o (subst (P 0) is (one t))
      go false true t c k =
          let o : row * h.size ≡ before = cc in
          let is : text_of h payload row ≡ bytes = cc in
          subst (λ (x : ℕ). P x bytes) o (subst (P (row * h.size)) is (several t (eqb-true h.data_type (code "c") c)))
      go false false t c k = let o : ◌≡◌ {A = ℕ} 0 1 = cc in absurd (omega arith)

  -- the kept bytes of a text are a front of what stands from its start on
  fronts : row_text h payload row ≡ Parts.text before bytes → take (length bytes) (drop before payload) ≡ bytes
  fronts =
      by_text (λ o t. take (length t) (drop o payload) ≡ t) (λ t. kept_front payload)
      (λ t c. let rest = drop (row * h.size) payload in
      let most : length (text_of h payload row) ≤ h.size = omega (arith, up_to_zero_length (take h.size rest), length-take h.size rest) in
      sym (take-take (length (text_of h payload row)) h.size rest most) ∙ up_to_zero_front (take h.size rest))

  -- and its length is the row's columns
  columns_are : (type : List ℕ) (v : Value) → value_of h payload type ≡ readable v → row_text h payload row ≡ Parts.text before bytes → v.columns row ≡ length bytes
  columns_are type v e =
      by_text (λ o t. v.columns row ≡ length t) (λ t. (subst (Has h payload type row 1 (length (kept payload))) e (one_text_has h payload type row t)).1)
      (λ t c. (subst (Has h payload type row h.repeat (length (text_of h payload row))) e (texts_have h payload type row t c)).1)

  module _ (s : List ℕ) (at : ℕ) (there : StandsAt s at h payload) (is-text : row_text h payload row ≡ Parts.text before bytes) where
    text_stands : bytes_from (at + 8 + before) (length bytes) s ≡ bytes
    text_stands =
        let n = length payload in
        let rest = drop (at + 8) s in
        let inside : drop before (take n rest) ≡ drop before payload = ap (drop before) there.is in
        let count : length bytes ≤ length (drop before (take n rest)) = omega (arith, ap length (fronts is-text), length-take (length bytes) (drop before payload), ap length inside) in
        ap (take (length bytes)) (sym (drop-drop before (at + 8) s)) ∙ sym (front_within (length bytes) before n rest count) ∙ ap (take (length bytes)) inside ∙ fronts is-text

-- A TEXT of the value of an item: the part that is told has its kept bytes, and they are the columns of the row
pub record TextIs (s : List ℕ) (at row : ℕ) (v : Value) (p : Result Part Refusal) (bytes : List ℕ) : Type 0 where
  pub cut : Parts.cut p s ≡ bytes
  pub columns : v.columns row ≡ length bytes

pub text_is : (s : List ℕ) (at type : ℕ) (h : KLV) (payload text : List ℕ) → found_at s at type ≡ found h payload text → (v : Value) → value_of h payload text ≡ readable v
    → (row before : ℕ) (bytes : List ℕ) → row < v.rows → row_text h payload row ≡ Parts.text before bytes → TextIs s at row v (text_of_found (found_at s at type) at row) bytes
text_is s at type h payload text e v r row before bytes inside t =
    let told : text_of_found (found_at s at type) at row ≡ placed (at + 8 + before) (length bytes) = ap (λ (f : Found). text_of_found f at row) e ∙ ap (λ (o : ValueOutcome). text_in at h payload o row) r ∙ rw (lt-ltb row v.rows inside, t) in
    record {
      cut = ap (λ (p : Result Part Refusal). Parts.cut p s) told ∙ text_stands h payload row before bytes s at (stands s at type h payload text e) t;
      columns = columns_are h payload row before bytes text v r t;
    }
