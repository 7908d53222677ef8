-- The answers of rows of letters, and of a TYPE text written out. Assumes nothing.
use Prim.Native.Nat.{ℕ, ◌+◌, ◌*◌, ◌<◌, ◌≤◌, ◌^◌}
use mathlib.Core.Path.{◌≡◌, refl, sym, ap, ◌∙◌}
use mathlib.Core.Bool.{true, false, cond}
use mathlib.Core.List.{List, [], ◌∷◌}
use native.Mathlib.Nat.{mul-le-mul}
use native.Mathlib.Omega.{arith}
use borrow.Author.Tests.{le-leb, lt-leb, lt-ltb, le-ltb}
use lib.Dec.{leb}
use lib.ListN.{length}
use Rattle.klv.specs.declared.KLV.{KLV}
use Rattle.elements.specs.declared.Element.{Element}
use Rattle.elements.specs.Types.{width_of}
use Rattle.elements.specs.Element.{element_at}
use Rattle.custom_type.specs.Expansion.{expanded}
use Rattle.custom_type.specs.Resolved.{fits}
use Rattle.value.specs.declared.Kind.TheVariants as kind
use Rattle.std.specs.Prelude.{Ok}
use Rattle.foundation.specs.Refusals.{refuse}
use Rattle.structures.specs.declared.Row.{Row}
use Rattle.structures.specs.declared.Letter.{Letter}
use Rattle.value.specs.Value.{refused, column_letters, widths_of, structured, structures}
use Rattle.value.specs.Answer.{element_in, shape_in}
use Rattle.structures.specs.Row.{RowIs, LetterIs}

-- rows of 2,048 bytes at most are counted in 64 bits
pub counted : (rows row width more : ℕ) → rows ≤ 65536 → row ≤ rows → width ≤ 2048 → more ≤ 2048 → row * width + more < 2 ^ 64
counted rows row width more r k w m =
    let few : row ≤ 65536 = omega arith in
    let most : row * width ≤ 65536 * 2048 = mul-le-mul few w in
    omega arith

module _ (h : KLV) (payload letters : List ℕ) (place rows : ℕ) (all : Row) (is-rows : rows ≡ h.repeat) (is_row : RowIs letters all) where
  abbrev wanted : ℕ
  wanted = h.repeat * widths_of (column_letters letters)

  same : rows * all.width ≡ wanted
  same = λ i. is-rows i * is_row.width i

  module _ (short : length payload < rows * all.width) where
    too_few_lem : leb wanted (length payload) ≡ false
    too_few_lem = lt-leb wanted (length payload) (omega (arith, same))

    pub element_short : (row column : ℕ) → refuse 6 place ≡ element_in place (structured (column_letters letters) h payload) row column
    element_short row column = simp too_few_lem

    pub shape_short : refuse 6 place ≡ shape_in place (structured (column_letters letters) h payload)
    shape_short = simp too_few_lem

  module _ (whole : rows * all.width ≤ length payload) where
    enough : leb wanted (length payload) ≡ true
    enough = le-leb wanted (length payload) (omega (arith, same))

    pub shape_whole : Ok (record { kind = kind.Structures; rows = rows; columns = all.columns }) ≡ shape_in place (structured (column_letters letters) h payload)
    shape_whole = (λ i. Ok (record { kind = kind.Structures; rows = is-rows i; columns = is_row.columns i })) ∙ sym (simp enough)

    pub no_row : (row column : ℕ) → rows ≤ row → refuse 13 place ≡ element_in place (structured (column_letters letters) h payload) row column
    no_row row column k = simp (enough, le-ltb row h.repeat (omega arith))

    pub no_column : (row column : ℕ) → row < rows → all.columns ≤ column → refuse 13 place ≡ element_in place (structured (column_letters letters) h payload) row column
    no_column row column k l =
        simp (enough, lt-ltb row h.repeat (omega arith), le-ltb column (length (column_letters letters)) (omega (arith, is_row.columns)))

    pub in_row : (row column : ℕ) (its : Letter) (x : Element) → row < rows → column < all.columns → LetterIs letters column its
        → x ≡ element_at payload (row * all.width + its.before) its.letter
        → Ok x ≡ element_in place (structured (column_letters letters) h payload) row column
    in_row row column its x k l is e =
        ap Ok (e ∙ (λ i. element_at payload (row * is_row.width i + is.before i) (is.letter i)))
        ∙ sym (simp (enough, lt-ltb row h.repeat (omega arith), lt-ltb column (length (column_letters letters)) (omega (arith, is_row.columns))))

-- ---- a TYPE text written out

module _ (h : KLV) (payload : List ℕ) where
  -- none, or an empty one
  pub no_type_lem : (type : List ℕ) → length type ≡ 0 → structures type h payload ≡ structures [] h payload
  no_type_lem [] e = refl
  no_type_lem (c ∷ type) e = absurd (omega arith)

  pub no_elements : (place row column : ℕ) → element_in place (structures [] h payload) row column ≡ refuse 13 place
  unfolding width_of
  no_elements place row column = simp (le-leb 0 (length payload) (omega arith), le-ltb row 0 (omega arith))

  pub no_shape : (place : ℕ) → shape_in place (structures [] h payload) ≡ Ok (record { kind = kind.Unknown; rows = 0; columns = 0 })
  unfolding width_of
  no_shape place = simp (le-leb 0 (length payload) (omega arith))

  pub with_type : (type : List ℕ) → (length type ≡ 0 → ⊥)
      → structures type h payload ≡ cond (fits (expanded type)) (structured (column_letters (expanded type)) h payload) (refused 8)
  with_type [] n = absurd (n refl)
  with_type (c ∷ type) n = refl
