-- What a MTRX gives, by the tests of its header: nine numbers are read, any other count is refused, and what is not nested f32 serves for none. Assumes nothing.
use Prim.Native.Nat.{ℕ, zero, suc, ◌+◌, ◌/◌, ◌<◌, ◌≤◌}
use Prim.Native.Char.{code}
use mathlib.Core.Path.{◌≡◌, refl, ap, sym, ◌∙◌}
use mathlib.Core.Bool.{Bool, true, false, cond, ◌&&◌, ◌||◌}
use mathlib.Core.List.{List, [], ◌∷◌, ◌++◌}
use native.Mathlib.Numerals.{add-one}
use native.Mathlib.Omega.{arith}
use borrow.Author.Tests.{eqb-true, ne_eqb, lt-ltb}
use lib.Dec.{eqb}
use lib.Ieee.{Float}
use lib.ListN.{length, take, set, length-append}
use lib.Seq.{take-suc-set}
use Rattle.std.specs.Prelude.{Option, None, Result, Ok}
use Rattle.foundation.specs.Refusals.{refuse}
use Rattle.foundation.specs.declared.refusal.Refusal.{Refusal}
use Rattle.axes.specs.declared.Axes.{Axes}
use Rattle.axes.specs.Back.{orientation_in}
use Rattle.axes.proofs.Lengths.{not_nine}
use Rattle.klv.specs.declared.KLV.{KLV}
use Rattle.elements.specs.declared.Element.{Element}
use Rattle.elements.specs.Types.{width_of}
use Rattle.value.specs.Value.{per_row}
use Rattle.orientation.specs.Matrix.{is_single, serves, single_of, singles_of, told, by_matrix}

-- the first n are n
pub length_singles : (row : ℕ → Result Element Refusal) (n : ℕ) → length (singles_of row n) ≡ n
unfolding singles_of
length_singles row zero = refl
length_singles row (suc n) = simp (length-append, length_singles row n) (omega arith)

-- ONE MORE, stored behind those so far
pub one_more : (row : ℕ → Result Element Refusal) (xs : List Float) (n : ℕ) (x : Float) → n < length xs → take n xs ≡ singles_of row n → x ≡ single_of (row n)
    → take (n + 1) (set xs n x) ≡ singles_of row (n + 1)
unfolding singles_of
one_more row xs n x h so_far is = rw add-one (take-suc-set xs n x h ∙ ap (λ (ys : List Float). ys ++ (x ∷ [])) so_far ∙ ap (λ (y : Float). singles_of row n ++ (y ∷ [])) is)

-- f32 numbers have four bytes
four_bytes : (letter : ℕ) → is_single letter ≡ true → width_of letter ≡ 4
unfolding width_of
four_bytes letter = go (eqb letter (code "f")) refl
  where
    go : (f : Bool) → eqb letter (code "f") ≡ f → f || eqb letter (code "q") ≡ true → width_of letter ≡ 4
    go true k e = ap width_of (eqb-true letter (code "f") k)
    go false k e = ap width_of (eqb-true letter (code "q") e)

-- which counts serve: more than four, and of the others two alone
pub more_serve : (n : ℕ) → 4 < n → true ≡ serves n
more_serve n h = simp (ne_eqb n 1 (λ e. omega arith), ne_eqb n 3 (λ e. omega arith), ne_eqb n 4 (λ e. omega arith), lt-ltb 0 n (omega arith))

pub few_serve_not : (n : ℕ) → (n ≡ 2 → ⊥) → n ≤ 4 → false ≡ serves n
few_serve_not zero two h = refl
few_serve_not (suc zero) two h = refl
few_serve_not (suc (suc zero)) two h = absurd (two refl)
few_serve_not (suc (suc (suc zero))) two h = refl
few_serve_not (suc (suc (suc (suc zero)))) two h = refl
few_serve_not (suc (suc (suc (suc (suc n))))) two h = absurd (omega arith)

module _ (h : KLV) (row : ℕ → Result Element Refusal) {n : ℕ} (count : n ≡ h.size / 4) {single : Bool} (tells : single ≡ is_single h.data_type) where
  abbrev read : Result (Option Axes) Refusal
  read = told (orientation_in (singles_of row (per_row h)))

  -- another letter
  pub not_single : single ≡ false → by_matrix h row ≡ Ok None
  not_single e = ap (λ (b : Bool). cond (b && serves (per_row h)) read (Ok None)) (sym tells ∙ e)

  module _ {served : Bool} (counts : served ≡ serves n) (is-single : single ≡ true) where
    in_row : n ≡ per_row h
    in_row = count ∙ ap (λ (w : ℕ). h.size / w) (sym (four_bytes h.data_type (sym tells ∙ is-single)))

    by_tests : (b : Bool) → served ≡ b → by_matrix h row ≡ cond b read (Ok None)
    by_tests b e =
        ap (λ (a : Bool). cond (a && serves (per_row h)) read (Ok None)) (sym tells ∙ is-single)
        ∙ ap (λ (a : Bool). cond a read (Ok None)) (ap serves (sym in_row) ∙ sym counts ∙ e)

    -- another kind
    pub not_served : served ≡ false → by_matrix h row ≡ Ok None
    not_served e = by_tests false e

    module _ (is-served : served ≡ true) where
      -- NINE numbers are read
      pub by_nine : (numbers : List Float) (o : Result Axes Refusal) (r : Result (Option Axes) Refusal) → n ≡ 9 → numbers ≡ singles_of row 9 → o ≡ orientation_in numbers → r ≡ told o
          → r ≡ by_matrix h row
      by_nine numbers o r n9 is eo er =
          let all : numbers ≡ singles_of row (per_row h) = is ∙ ap (singles_of row) (sym n9 ∙ in_row) in
          er ∙ ap told (eo ∙ ap orientation_in all) ∙ sym (by_tests true is-served)

      -- any other count is REFUSED
      pub other_count : (n ≡ 9 → ⊥) → by_matrix h row ≡ refuse 10 0
      other_count other =
          by_tests true is-served ∙ ap told (not_nine (singles_of row (per_row h)) (λ e. other (in_row ∙ sym (length_singles row (per_row h)) ∙ e)))
