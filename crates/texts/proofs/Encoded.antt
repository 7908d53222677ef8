-- EVERY ENCODED LIST of scalar values is well formed: the bytes of each lie in a row of the table. Assumes nothing.
use Prim.Native.Nat.{ℕ, ◌+◌, ◌/◌, ◌<◌, ◌≤◌}
use mathlib.Core.Path.{◌≡◌, refl, ap, ◌∙◌}
use mathlib.Core.Bool.{true}
use mathlib.Core.List.{List, [], ◌∷◌, ◌++◌}
use native.Mathlib.Decide.{dec_le}
use native.Mathlib.Omega.{arith}
use borrow.Author.Tests.{le-leb, lt-leb}
use lib.Dec.{T}
use Rattle.texts.specs.Utf8.{Range, ◌to◌, table, Due, due, begin, pays, well_formed}
use Rattle.texts.specs.Scalar.{Scalar, below, above, Scalars, none, more, trailing, encode, encoded}
use Rattle.texts.proofs.Table.{unparted_by, same_row, next_inside}

-- bytes in ranges, one in each
abbrev pub Matches : List Range → List ℕ → Type 0
Matches [] [] = Unit
Matches [] (b ∷ bs) = ⊥
Matches (r ∷ rs) [] = ⊥
Matches (first to last ∷ rs) (b ∷ bs) = (first ≤ b) × (b ≤ last) × Matches rs bs

-- they pay what is owed
pays_matches : (rs : List Range) (bs s : List ℕ) → Matches rs bs → pays (due rs) (bs ++ s) ≡ pays (due []) s
pays_matches [] [] s m = refl
pays_matches [] (b ∷ bs) s m = absurd m
pays_matches (r ∷ rs) [] s m = absurd m
pays_matches (first to last ∷ rs) (b ∷ bs) s m = ap (λ (d : Due). pays d (bs ++ s)) (next_inside first last rs b m.0 m.1) ∙ pays_matches rs bs s m.2

-- a row of the table: the first bytes from low to high, and the ranges behind them
pub record IsRow (low high : ℕ) (behind : List Range) : Type 0 where
  pub unparted : T (unparted_by table low high)
  pub begins : begin table low ≡ due behind

-- ---- the bytes of a scalar value, by its length
module _ (c : ℕ) where
  pub one : c ≤ 0x7F → encode c ≡ c ∷ []
  unfolding encode
  one h = rw (le-leb c 0x7F h)

  pub two : 0x7F < c → c ≤ 0x7FF → encode c ≡ (0xC0 + c / 64) ∷ trailing c ∷ []
  unfolding encode
  two h k = rw (lt-leb c 0x7F h, le-leb c 0x7FF k)

  pub three : 0x7FF < c → c ≤ 0xFFFF → encode c ≡ (0xE0 + c / 4096) ∷ trailing (c / 64) ∷ trailing c ∷ []
  unfolding encode
  three h k =
      let l : 0x7F < c = omega arith in
      rw (lt-leb c 0x7F l, lt-leb c 0x7FF h, le-leb c 0xFFFF k)

  pub four : 0xFFFF < c → encode c ≡ (0xF0 + c / 262144) ∷ trailing (c / 4096) ∷ trailing (c / 64) ∷ trailing c ∷ []
  unfolding encode
  four h =
      let l : 0x7F < c = omega arith in
      let m : 0x7FF < c = omega arith in
      rw (lt-leb c 0x7F l, lt-leb c 0x7FF m, lt-leb c 0xFFFF h)

-- ---- the row of a scalar value
module _ (c : ℕ) where
  abbrev Sequence : Type 0
  Sequence = (s : List ℕ) → pays (due []) (encode c ++ s) ≡ pays (due []) s

  in_row : (low high b : ℕ) (rs : List Range) (bs : List ℕ) → IsRow low high rs → encode c ≡ b ∷ bs → (low ≤ b) × (b ≤ high) × Matches rs bs → Sequence
  in_row low high b rs bs r e m s =
      ap (λ (q : List ℕ). pays (due []) (q ++ s)) e
      ∙ ap (λ (d : Due). pays d (bs ++ s)) (same_row low high b m.0 m.1 r.unparted ∙ r.begins)
      ∙ pays_matches rs bs s m.2

  row_three : (low high first last : ℕ) → IsRow low high (first to last ∷ 0x80 to 0xBF ∷ []) → 0x7FF < c → c ≤ 0xFFFF
      → (low ≤ 0xE0 + c / 4096) × (0xE0 + c / 4096 ≤ high) × (first ≤ trailing (c / 64)) × (trailing (c / 64) ≤ last) → Sequence
  row_three low high first last r h k m =
      in_row low high (0xE0 + c / 4096) (first to last ∷ 0x80 to 0xBF ∷ []) (trailing (c / 64) ∷ trailing c ∷ []) r (three c h k) (m.0, m.1, (m.2, m.3, omega arith))

  row_four : (low high first last : ℕ) → IsRow low high (first to last ∷ 0x80 to 0xBF ∷ 0x80 to 0xBF ∷ []) → 0xFFFF < c
      → (low ≤ 0xF0 + c / 262144) × (0xF0 + c / 262144 ≤ high) × (first ≤ trailing (c / 4096)) × (trailing (c / 4096) ≤ last) → Sequence
  row_four low high first last r h m =
      in_row low high (0xF0 + c / 262144) (first to last ∷ 0x80 to 0xBF ∷ 0x80 to 0xBF ∷ []) (trailing (c / 4096) ∷ trailing (c / 64) ∷ trailing c ∷ []) r (four c h)
      (m.0, m.1, (m.2, m.3, omega arith))

  is_sequence : Scalar c → Sequence
  unfolding table
  is_sequence (below h) = go (dec_le c 0x7F) (dec_le c 0x7FF) (dec_le c 0xFFF) (dec_le c 0xCFFF)
    where
      go : Dec (c ≤ 0x7F) → Dec (c ≤ 0x7FF) → Dec (c ≤ 0xFFF) → Dec (c ≤ 0xCFFF) → Sequence
      go (yes i) y z w = in_row 0x00 0x7F c [] [] (record { unparted = tt; begins = refl }) (one c i) (omega arith)
      go (no i) (yes j) z w = in_row 0xC2 0xDF (0xC0 + c / 64) (0x80 to 0xBF ∷ []) (trailing c ∷ []) (record { unparted = tt; begins = refl }) (two c (omega arith) j) (omega arith)
      go (no i) (no j) (yes k) w = row_three 0xE0 0xE0 0xA0 0xBF (record { unparted = tt; begins = refl }) (omega arith) (omega arith) (omega arith)
      go (no i) (no j) (no k) (yes l) = row_three 0xE1 0xEC 0x80 0xBF (record { unparted = tt; begins = refl }) (omega arith) (omega arith) (omega arith)
      go (no i) (no j) (no k) (no l) = row_three 0xED 0xED 0x80 0x9F (record { unparted = tt; begins = refl }) (omega arith) (omega arith) (omega arith)
  is_sequence (above h m) = go (dec_le c 0xFFFF) (dec_le c 0x3FFFF) (dec_le c 0xFFFFF)
    where
      go : Dec (c ≤ 0xFFFF) → Dec (c ≤ 0x3FFFF) → Dec (c ≤ 0xFFFFF) → Sequence
      go (yes i) y z = row_three 0xEE 0xEF 0x80 0xBF (record { unparted = tt; begins = refl }) (omega arith) i (omega arith)
      go (no i) (yes j) z = row_four 0xF0 0xF0 0x90 0xBF (record { unparted = tt; begins = refl }) (omega arith) (omega arith)
      go (no i) (no j) (yes k) = row_four 0xF1 0xF3 0x80 0xBF (record { unparted = tt; begins = refl }) (omega arith) (omega arith)
      go (no i) (no j) (no k) = row_four 0xF4 0xF4 0x80 0x8F (record { unparted = tt; begins = refl }) (omega arith) (omega arith)

pub encoded_well_formed : {cs : List ℕ} → Scalars cs → well_formed (encoded cs) ≡ true
unfolding well_formed
encoded_well_formed none = refl
encoded_well_formed (more {c = c} {cs = cs} x xs) = is_sequence c x (encoded cs) ∙ encoded_well_formed xs
