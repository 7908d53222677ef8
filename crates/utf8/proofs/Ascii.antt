-- An ASCII text is well formed; a byte more of one, and one in front of a text. Assumes nothing.
use Prim.Native.Nat.{ℕ, zero, suc, ◌+◌, ◌<◌, ◌≤◌}
use mathlib.Core.Path.{◌≡◌, refl, sym, ap, subst, ◌∙◌}
use mathlib.Core.List.{List, [], ◌∷◌}
use mathlib.Core.Bool.{Bool, true, false, ◌&&◌}
use native.Mathlib.Numerals.{add-one}
use native.Mathlib.Omega.{arith}
use lib.Dec.{T, ltb, ltb→lt}
use lib.ListN.{length, drop, get_or, drop_of_length-le}
use lib.Seq.{drop-cons}
use Rattle.texts.specs.Kept.{up_to_zero}
use Rattle.texts.specs.Texts.{is_well_formed_text}
use Rattle.texts.specs.Utf8.{table, Due, due, pays, well_formed}
use Rattle.utf8.specs.Expected.{ascii}
use Rattle.texts.proofs.Table.{both, same_row}

-- the next byte joins those passed
pub ascii_turn : (only : Bool) (s : List ℕ) (i : ℕ) → i < length s → (only && ltb (get_or s i 0) 0x80 && ascii (drop (i + 1) s)) ≡ (only && ascii (drop i s))
ascii_turn true s i h = rw (drop-cons s i 0 h, add-one)
ascii_turn false s i h = refl

pub ascii_end : (only : Bool) (s : List ℕ) (i : ℕ) → length s ≤ i → only ≡ (only && ascii (drop i s))
ascii_end true s i h = sym (ap ascii (drop_of_length-le s h))
ascii_end false s i h = refl

-- each byte of an ASCII text is a sequence
ascii_pays : (s : List ℕ) → T (ascii s) → pays (due []) s ≡ true
unfolding table
ascii_pays [] h = refl
ascii_pays (b ∷ s) h =
    let t = both (ltb b 0x80) (ascii s) h in
    let k = ltb→lt b 0x80 t.0 in
    ap (λ (d : Due). pays d s) (same_row 0x00 0x7F b (omega arith) (omega arith) tt) ∙ ascii_pays s t.1

pub ascii_well_formed : (s : List ℕ) → ascii s ≡ true → well_formed s ≡ true
unfolding well_formed
ascii_well_formed s h = ascii_pays s (subst T (sym h) tt)

-- ---- a text that counts up to its first zero
-- an ASCII byte in front changes nothing
in_front : (b : ℕ) (s : List ℕ) → (b ≡ 0 → ⊥) → b < 0x80 → is_well_formed_text (b ∷ s) ≡ is_well_formed_text s
unfolding well_formed table
in_front zero s h k = absurd (h refl)
in_front (suc b) s h k = ap (λ (d : Due). pays d (up_to_zero s)) (same_row 0x00 0x7F (suc b) (omega arith) (omega arith) tt)

module _ (s : List ℕ) (i : ℕ) where
  pub ascii_passed : i < length s → (get_or s i 0 ≡ 0 → ⊥) → get_or s i 0 < 0x80 → is_well_formed_text (drop i s) ≡ is_well_formed_text (drop (i + 1) s)
  ascii_passed h k l = ap is_well_formed_text (drop-cons s i 0 h) ∙ in_front (get_or s i 0) (drop (suc i) s) k l ∙ ap (λ (n : ℕ). is_well_formed_text (drop n s)) (sym (add-one i))

  pub none_next : length s ≤ i → is_well_formed_text (drop i s) ≡ true
  unfolding well_formed
  none_next h = ap is_well_formed_text (drop_of_length-le s {i = i} h)
