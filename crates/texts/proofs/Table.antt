-- The table of UTF-8 sequences and the bytes that pay: one law for every row, and the next byte of a text. Assumes nothing.
use Prim.Native.Nat.{ℕ, ◌+◌, ◌<◌, ◌≤◌}
use mathlib.Core.Path.{◌≡◌, refl, sym, ap, ◌∙◌}
use mathlib.Core.List.{List, [], ◌∷◌}
use mathlib.Core.Bool.{Bool, true, false, cond, ◌&&◌, ◌||◌}
use native.Mathlib.Numerals.{add-one}
use native.Mathlib.Omega.{arith}
use borrow.Author.Tests.{ltb-true, leb-true, le-leb, lt-leb}
use lib.Dec.{T, leb, ltb}
use lib.ListN.{length, drop, get_or, drop_of_length-le}
use lib.Seq.{drop-cons}
use Rattle.texts.specs.Utf8.{Range, ◌to◌, within, Row, row, table, Due, due, refused, begin, next, paid, pays}

pub both : (x y : Bool) → T (x && y) → T x × T y
both true y h = (tt, h)
both false y h = absurd h

and_false : (x : Bool) → (x && false) ≡ false
and_false true = refl
and_false false = refl

-- ---- a range
module _ (first last b : ℕ) where
  inside : first ≤ b → b ≤ last → within (first to last) b ≡ true
  inside h k = rw (le-leb first b h, le-leb b last k)

  below : b < first → within (first to last) b ≡ false
  below h = rw (lt-leb first b h)

  above : last < b → within (first to last) b ≡ false
  above h = rw (lt-leb b last h) (and_false (leb first b))

-- a byte behind the first, in its range or outside
module _ (first last : ℕ) (rs : List Range) (b : ℕ) where
  pub next_below : b < first → next (due (first to last ∷ rs)) b ≡ refused
  next_below h = ap (λ (x : Bool). cond x (due rs) refused) (below first last b h)

  pub next_above : last < b → next (due (first to last ∷ rs)) b ≡ refused
  next_above h = ap (λ (x : Bool). cond x (due rs) refused) (above first last b h)

  pub next_inside : first ≤ b → b ≤ last → next (due (first to last ∷ rs)) b ≡ due rs
  next_inside h k = ap (λ (x : Bool). cond x (due rs) refused) (inside first last b h k)

-- ---- a first byte

-- no border of a range parts the bytes from low to high
abbrev pub unparted : Range → ℕ → ℕ → Bool
unparted (first to last) low high = ltb last low || ltb high first || (leb first low && leb high last)

abbrev pub unparted_by : List Row → ℕ → ℕ → Bool
unparted_by [] low high = true
unparted_by (row first behind ∷ rows) low high = unparted first low high && unparted_by rows low high

module _ (low high b : ℕ) (from : low ≤ b) (up : b ≤ high) where
  same_within : (first last : ℕ) → T (unparted (first to last) low high) → within (first to last) b ≡ within (first to last) low
  same_within first last h = go (ltb last low) refl (ltb high first) refl (leb first low) refl (leb high last) refl h
    where
      go : (x : Bool) → ltb last low ≡ x → (y : Bool) → ltb high first ≡ y → (z : Bool) → leb first low ≡ z → (w : Bool) → leb high last ≡ w
          → T (x || y || (z && w)) → within (first to last) b ≡ within (first to last) low
      go true e y f z g w k h =
          let l = ltb-true last low e in
          above first last b (omega arith) ∙ sym (above first last low (omega arith))
      go false e true f z g w k h =
          let l = ltb-true high first f in
          below first last b (omega arith) ∙ sym (below first last low (omega arith))
      go false e false f true g true k h =
          let l = leb-true first low g in
          let m = leb-true high last k in
          inside first last b (omega arith) (omega arith) ∙ sym (inside first last low (omega arith) (omega arith))
      go false e false f true g false k h = absurd h
      go false e false f false g w k h = absurd h

  same_begin : (rows : List Row) → T (unparted_by rows low high) → begin rows b ≡ begin rows low
  same_begin [] h = refl
  same_begin (row (first to last) behind ∷ rows) h =
      let t = both (unparted (first to last) low high) (unparted_by rows low high) h in
      λ i. cond (same_within first last t.0 i) (due behind) (same_begin rows t.1 i)

  -- ONE LAW FOR EVERY ROW: bytes that no border parts begin what the first of them begins
  pub same_row : T (unparted_by table low high) → begin table b ≡ begin table low
  same_row = same_begin table

-- ---- a text: its next byte, and its end
pub pays_turn : (d : Due) (s : List ℕ) (i : ℕ) → i < length s → pays d (drop i s) ≡ pays (next d (get_or s i 0)) (drop (i + 1) s)
pays_turn d s i h = rw (drop-cons s i 0 h, add-one)

pub pays_end : (d : Due) (s : List ℕ) (i : ℕ) → length s ≤ i → pays d (drop i s) ≡ paid d
pays_end d s i h = ap (pays d) (drop_of_length-le s h)
