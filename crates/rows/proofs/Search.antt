-- The lookup from the end: the last row asked for is the one at the end, or else it is that of the rows before. Hence what is found is a row asked for,
-- and no row behind it is. Assumes nothing.
use Prim.Native.Nat.{ℕ, zero, suc, ◌+◌, ◌-◌, ◌*◌, ◌<◌, ◌≤◌}
use mathlib.Core.Path.{◌≡◌, refl, ap, sym, ◌∙◌}
use mathlib.Core.Bool.{Bool, true, false, cond}
use mathlib.Core.List.{List, [], ◌∷◌, ◌++◌, map, flat_map}
use native.Mathlib.Omega.{arith}
use native.Mathlib.Nat.{add-zero}
use native.Mathlib.Numerals.{add-one}
use lib.ListN.{length, drop}
use lib.Seq.{drop-drop}
use borrow.Author.Tests.{lt-ltb, le-ltb}
use borrow.Author.Count.{below_more}
use Rattle.reading.specs.Record.{Record, numbers, row_width}
use Rattle.reading.specs.Walk.{room_of}
use Rattle.rows.specs.Row.{taken, row_of}
use Rattle.rows.specs.Lookup.{rows_of, later_or, matching, last_from, lookup_of}
use Rattle.rows.specs.declared.Row.{Row}
use Rattle.foundation.specs.Refusals.{refuse}
use Rattle.foundation.specs.declared.refusal.Refusal.{Refusal}
use Rattle.std.specs.Prelude.{Option, Some, None, Result, Ok, Err}

pub rows_count : (n : ℕ) (s : List ℕ) → length (rows_of n s) ≡ n
unfolding rows_of
rows_count zero s = refl
rows_count (suc n) s = ap suc (rows_count n (drop row_width s))

-- one row more, at the end
pub rows_more : (n : ℕ) (s : List ℕ) → rows_of (suc n) s ≡ rows_of n s ++ (row_of s n ∷ [])
unfolding rows_of
rows_more zero s = refl
rows_more (suc n) s =
    let rest : List ℕ = drop row_width s in
    let further : row_width + n * row_width ≡ suc n * row_width = omega arith in
    let there : drop (n * row_width) rest ≡ drop (suc n * row_width) s = drop-drop (n * row_width) row_width s ∙ ap (λ (k : ℕ). drop k s) further in
    ap (λ (rs : List Row). taken s ∷ rs) (rows_more n rest) ∙ ap (λ (t : List ℕ). taken s ∷ rows_of n rest ++ (taken t ∷ [])) there

-- the rows of the records of a walk, as its lent numbers hold them
pub rows_of_records : (rs : List Record) (rest : List ℕ) → rows_of (length rs) (flat_map numbers rs ++ rest) ≡ map (λ (r : Record). taken (numbers r)) rs
unfolding rows_of numbers flat_map
rows_of_records [] rest = refl
rows_of_records (r ∷ rs) rest = ap (λ (rows : List Row). taken (numbers r) ∷ rows) (rows_of_records rs rest)

-- what is found later on counts
kept : (b : Bool) (n : ℕ) (f here : Option ℕ) → later_or (cond b (Some n) f) here ≡ cond b (Some n) (later_or f here)
kept true n f here = refl
kept false n f here = refl

module _ (group_kind group_key tag key : ℕ) where
  abbrev asked : Row → Bool
  asked r = matching group_kind group_key tag key r

  abbrev found : ℕ → List Row → Option ℕ
  found n rs = last_from group_kind group_key tag key n rs

  last_of_more : (n : ℕ) (rs : List Row) (r : Row) → found n (rs ++ (r ∷ [])) ≡ cond (asked r) (Some (n + length rs)) (found n rs)
  unfolding last_from
  last_of_more n [] r = ap (λ (k : ℕ). cond (asked r) (Some k) None) (sym (add-zero n))
  last_of_more n (q ∷ rs) r =
      let here : Option ℕ = cond (asked q) (Some n) None in
      let further : suc n + length rs ≡ n + suc (length rs) = omega arith in
      ap (λ (f : Option ℕ). later_or f here) (last_of_more (suc n) rs r) ∙ kept (asked r) (suc n + length rs) (found (suc n) rs) here
      ∙ ap (λ (k : ℕ). cond (asked r) (Some k) (later_or (found (suc n) rs) here)) further

  -- among the first so many rows of some numbers
  abbrev pub among : ℕ → List ℕ → Option ℕ
  among n s = found 0 (rows_of n s)

  -- ONE ROW MORE is the last such row if it is one
  pub among_more : (n : ℕ) (s : List ℕ) → among (suc n) s ≡ cond (asked (row_of s n)) (Some n) (among n s)
  among_more n s =
      let there : 0 + length (rows_of n s) ≡ n = omega (arith, rows_count n s) in
      ap (λ (rs : List Row). found 0 rs) (rows_more n s) ∙ last_of_more 0 (rows_of n s) (row_of s n)
      ∙ ap (λ (k : ℕ). cond (asked (row_of s n)) (Some k) (among n s)) there

  -- A STEP from the end, by the row there and the test of it
  pub among_step : (n : ℕ) (s : List ℕ) (row : Row) (test b : Bool) → 0 < n → row ≡ row_of s (n - 1) → test ≡ asked row → test ≡ b
      → among n s ≡ cond b (Some (n - 1)) (among (n - 1) s)
  among_step n s row test b h there tells is =
      let one : n ≡ suc (n - 1) = omega arith in
      ap (λ (k : ℕ). among k s) one ∙ among_more (n - 1) s
      ∙ ap (λ (d : Bool). cond d (Some (n - 1)) (among (n - 1) s)) (ap asked (sym there) ∙ sym tells ∙ is)

  -- no rows are left
  pub among_none : (n : ℕ) (s : List ℕ) → n ≡ 0 → among n s ≡ None
  unfolding last_from rows_of
  among_none n s e = ap (λ (k : ℕ). among k s) e

  -- ---- a count that does not fit, and one that does

  pub too_many : (s : List ℕ) (count : ℕ) → room_of (length s) < count → lookup_of group_kind group_key tag key s count ≡ refuse 5 0
  unfolding lookup_of
  too_many s count h = ap (λ (b : Bool). cond b (refuse 5 0) (Ok (among count s))) (lt-ltb (room_of (length s)) count h)

  pub fits : (s : List ℕ) (count : ℕ) → count ≤ room_of (length s) → lookup_of group_kind group_key tag key s count ≡ Ok (among count s)
  unfolding lookup_of
  fits s count h = ap (λ (b : Bool). cond b (refuse 5 0) (Ok (among count s))) (le-ltb (room_of (length s)) count h)

  -- ---- what an answer says

  module _ (s : List ℕ) where
    -- no row from one index up to another is asked for
    abbrev pub NoneFrom : ℕ → ℕ → Type 0
    NoneFrom from count = (k : ℕ) → k < count → from ≤ k → asked (row_of s k) ≡ false

    pub record LastOne (count n : ℕ) : Type 0 where
      pub within : n < count
      pub is : asked (row_of s n) ≡ true
      pub none_behind : NoneFrom (n + 1) count

    abbrev pub Says : Option ℕ → ℕ → Type 0
    Says (Some n) count = LastOne count n
    Says None count = NoneFrom 0 count

    none_more : (from n : ℕ) → NoneFrom from n → asked (row_of s n) ≡ false → NoneFrom from (n + 1)
    none_more from n before here = below_more (λ (k : ℕ). from ≤ k → asked (row_of s k) ≡ false) n before (λ l. here)

    says_more : (f : Option ℕ) (n : ℕ) (b : Bool) → asked (row_of s n) ≡ b → Says f n → Says (cond b (Some n) f) (n + 1)
    says_more f n true e before = record { within = omega arith; is = e; none_behind = λ k below above. absurd (omega arith) }
    says_more (Some m) n false e before = record { within = omega arith; is = before.is; none_behind = none_more (m + 1) n before.none_behind e }
    says_more None n false e before = none_more 0 n before e

    says : (count : ℕ) → Says (among count s) count
    unfolding last_from rows_of
    says zero = λ k below above. absurd (omega arith)
    says (suc n) =
        let before : Says (among n s) n = says n in
        rw (among_more n s, ← add-one n) (says_more (among n s) n (asked (row_of s n)) refl before)

    -- the same of an answer: it is not a refusal
    abbrev pub Tells : Result (Option ℕ) Refusal → ℕ → Type 0
    Tells (Ok f) count = Says f count
    Tells (Err r) count = ⊥

    -- WHAT IS FOUND is asked for, and nothing behind it is; where nothing is found, no row is; and a count that fits is not refused
    pub lookup_says : (count : ℕ) → count ≤ room_of (length s) → Tells (lookup_of group_kind group_key tag key s count) count
    lookup_says count h = rw (fits s count h) (says count)
