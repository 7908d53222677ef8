-- A row of letters, gone through one by one: what a letter more adds, and which letter a column has. Assumes nothing.
use Prim.Native.Nat.{ℕ, suc, ◌+◌, ◌-◌, ◌<◌, ◌≤◌}
use mathlib.Core.Path.{◌≡◌, refl, sym, ap, ◌∙◌}
use mathlib.Core.Bool.{cond}
use mathlib.Core.List.{List, [], ◌∷◌}
use native.Mathlib.Numerals.{add-one}
use native.Mathlib.Omega.{arith}
use borrow.Author.Tests.{eq-eqb, ne_eqb}
use lib.Dec.{eqb}
use lib.ListN.{length, take, drop, get_or, drop_of_length-le}
use lib.Seq.{drop-cons}
use Rattle.elements.specs.Types.{width_of}
use Rattle.value.specs.Value.{column_letters, widths_of}

reading_cons : (l : ℕ) (s : List ℕ) → column_letters (l ∷ s) ≡ cond (eqb (width_of l) 0) (column_letters s) (l ∷ column_letters s)
unfolding column_letters
reading_cons l s = refl

-- past the last letter
pub none_left : (letters : List ℕ) (i : ℕ) → length letters ≤ i → column_letters (drop i letters) ≡ []
unfolding column_letters
none_left letters i h = ap column_letters (drop_of_length-le letters {i = i} h)

module _ (letters : List ℕ) (i : ℕ) (inside : i < length letters) (w : ℕ) (is-width : w ≡ width_of (get_or letters i 0)) where
  abbrev here : List ℕ
  here = column_letters (drop i letters)

  abbrev later : List ℕ
  later = column_letters (drop (i + 1) letters)

  first : here ≡ cond (eqb w 0) later (get_or letters i 0 ∷ later)
  first =
      ap column_letters (drop-cons letters i 0 inside)
      ∙ reading_cons (get_or letters i 0) (drop (suc i) letters)
      ∙ rw (← is-width, ← add-one i)

  -- a letter that reads nothing is no column
  pub skipped : w ≤ 0 → here ≡ later
  skipped none = first ∙ simp (eq-eqb w 0 (omega arith))

  -- any other is
  module _ (some : 0 < w) where
    reads : here ≡ get_or letters i 0 ∷ later
    reads = first ∙ simp (ne_eqb w 0 (λ z. absurd (omega arith)))

    pub more_columns : length here ≡ suc (length later)
    more_columns = rw reads

    pub more_bytes : widths_of here ≡ w + widths_of later
    unfolding widths_of
    more_bytes = rw (reads, ← is-width)

    -- of the columns from here on it is the first
    pub the_letter : (left : ℕ) → left ≡ 0 → get_or letters i 0 ≡ get_or here left 0
    the_letter left z = sym (ap (λ (k : ℕ). get_or here k 0) z ∙ ap (λ (l : List ℕ). get_or l 0 0) reads)

    pub same_letter : (left : ℕ) → 0 < left → get_or here left 0 ≡ get_or later (left - 1) 0
    same_letter left l =
        let next : left ≡ suc (left - 1) = omega arith in
        ap (λ (k : ℕ). get_or here k 0) next ∙ ap (λ (s : List ℕ). get_or s (suc (left - 1)) 0) reads

    pub same_bytes : (left : ℕ) → 0 < left → widths_of (take left here) ≡ w + widths_of (take (left - 1) later)
    unfolding widths_of
    same_bytes left l =
        let next : left ≡ suc (left - 1) = omega arith in
        ap (λ (k : ℕ). widths_of (take k here)) next ∙ ap (λ (s : List ℕ). widths_of (take (suc (left - 1)) s)) reads ∙ rw (← is-width)

-- before the first column there are no bytes
pub no_bytes : (letters : List ℕ) (left : ℕ) → left ≡ 0 → widths_of (take left letters) ≡ 0
unfolding widths_of
no_bytes letters left z = ap (λ (k : ℕ). widths_of (take k letters)) z
