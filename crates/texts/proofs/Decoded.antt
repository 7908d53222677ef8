-- EVERY WELL-FORMED TEXT is an encoded list of scalar values: the bytes of each row of the table are those of a scalar value. Assumes nothing.
use Prim.Native.Nat.{ℕ, zero, suc, ◌+◌, ◌-◌, ◌*◌, ◌/◌, ◌<◌, ◌≤◌}
use mathlib.Core.Path.{◌≡◌, refl, sym, ap, ◌∙◌}
use mathlib.Core.Bool.{Bool, true, false, cond, ◌&&◌}
use mathlib.Core.List.{List, [], ◌∷◌, ◌++◌}
use native.Mathlib.Nat.{not-suc-le-zero}
use native.Mathlib.Decide.{dec_le}
use native.Mathlib.Omega.{arith}
use borrow.Author.Tests.{leb-true}
use lib.Dec.{T, leb}
use lib.ListN.{length, length-append}
use Rattle.texts.specs.Utf8.{Range, ◌to◌, within, table, Due, due, refused, begin, pays, well_formed}
use Rattle.texts.specs.Scalar.{Scalar, below, above, none, more, trailing, encode, encoded, Encoded}
use Rattle.texts.proofs.Table.{unparted_by, same_row}
use Rattle.texts.proofs.Encoded.{Matches, IsRow, one, two, three, four}

-- ---- bytes that encode a scalar value
record Decoded (bs : List ℕ) : Type 0 where
  value : ℕ
  scalar : Scalar value
  is : encode value ≡ bs

-- by the length: the bytes behind the first lie in 80 to BF at least, and the value is one of that length
of_one : (a : ℕ) → a ≤ 0x7F → (bs : List ℕ) → Matches [] bs → Decoded (a ∷ bs)
of_one a h [] m = record { value = a; scalar = below (omega arith); is = one a h }
of_one a h (x ∷ bs) m = absurd m

of_two : (a : ℕ) → (0xC2 ≤ a) × (a ≤ 0xDF) → (bs : List ℕ) → Matches (0x80 to 0xBF ∷ []) bs → Decoded (a ∷ bs)
of_two a h [] m = absurd m
of_two a h (x ∷ []) m =
    let v = (a - 0xC0) * 64 + (x - 0x80) in
    let ea : 0xC0 + v / 64 ≡ a = omega arith in
    let ex : trailing v ≡ x = omega arith in
    record { value = v; scalar = below (omega arith); is = two v (omega arith) (omega arith) ∙ (λ i. ea i ∷ ex i ∷ []) }
of_two a h (x ∷ y ∷ bs) m = absurd m.2

abbrev three_value : ℕ → ℕ → ℕ → ℕ
three_value a x y = (a - 0xE0) * 4096 + (x - 0x80) * 64 + (y - 0x80)

three_digits : (a x y : ℕ) → 0xE0 ≤ a → 0x80 ≤ x → x ≤ 0xBF → 0x80 ≤ y → y ≤ 0xBF
    → (0xE0 + three_value a x y / 4096 ≡ a) × (trailing (three_value a x y / 64) ≡ x) × (trailing (three_value a x y) ≡ y)
three_digits a x y h i j k l = omega arith

of_three : (a first last : ℕ) → (0xE0 ≤ a) × (a ≤ 0xEF) × (0x80 ≤ first) × (last ≤ 0xBF)
    → ((x y : ℕ) → Matches (first to last ∷ 0x80 to 0xBF ∷ []) (x ∷ y ∷ []) → (0x7FF < three_value a x y) × Scalar (three_value a x y))
    → (bs : List ℕ) → Matches (first to last ∷ 0x80 to 0xBF ∷ []) bs → Decoded (a ∷ bs)
of_three a first last h f [] m = absurd m
of_three a first last h f (x ∷ []) m = absurd m.2
of_three a first last h f (x ∷ y ∷ []) m =
    let w = f x y m in
    let d = three_digits a x y h.0 (omega arith) (omega arith) m.2.0 m.2.1 in
    record { value = three_value a x y; scalar = w.1; is = three (three_value a x y) w.0 (omega arith) ∙ (λ i. d.0 i ∷ d.1 i ∷ d.2 i ∷ []) }
of_three a first last h f (x ∷ y ∷ z ∷ bs) m = absurd m.2.2

abbrev four_value : ℕ → ℕ → ℕ → ℕ → ℕ
four_value a x y z = (a - 0xF0) * 262144 + (x - 0x80) * 4096 + (y - 0x80) * 64 + (z - 0x80)

four_digits : (a x y z : ℕ) → 0xF0 ≤ a → 0x80 ≤ x → x ≤ 0xBF → 0x80 ≤ y → y ≤ 0xBF → 0x80 ≤ z → z ≤ 0xBF
    → (0xF0 + four_value a x y z / 262144 ≡ a) × (trailing (four_value a x y z / 4096) ≡ x) × (trailing (four_value a x y z / 64) ≡ y) × (trailing (four_value a x y z) ≡ z)
four_digits a x y z h i j k l m n = omega arith

of_four : (a first last : ℕ) → (0xF0 ≤ a) × (0x80 ≤ first) × (last ≤ 0xBF)
    → ((x y z : ℕ) → Matches (first to last ∷ 0x80 to 0xBF ∷ 0x80 to 0xBF ∷ []) (x ∷ y ∷ z ∷ []) → (0xFFFF < four_value a x y z) × (four_value a x y z ≤ 0x10FFFF))
    → (bs : List ℕ) → Matches (first to last ∷ 0x80 to 0xBF ∷ 0x80 to 0xBF ∷ []) bs → Decoded (a ∷ bs)
of_four a first last h f [] m = absurd m
of_four a first last h f (x ∷ []) m = absurd m.2
of_four a first last h f (x ∷ y ∷ []) m = absurd m.2.2
of_four a first last h f (x ∷ y ∷ z ∷ []) m =
    let w = f x y z m in
    let b = m.2.2 in
    let d = four_digits a x y z h.0 (omega arith) (omega arith) m.2.0 m.2.1 b.0 b.1 in
    record { value = four_value a x y z; scalar = above (omega arith) w.1; is = four (four_value a x y z) w.0 ∙ (λ i. d.0 i ∷ d.1 i ∷ d.2 i ∷ d.3 i ∷ []) }
of_four a first last h f (x ∷ y ∷ z ∷ u ∷ bs) m = absurd m.2.2.2

-- ---- a text that pays what it owes pays in the ranges owed
record Split (rs : List Range) (s : List ℕ) : Type 0 where
  bytes : List ℕ
  rest : List ℕ
  is : s ≡ bytes ++ rest
  matches : Matches rs bytes
  pays_rest : pays (due []) rest ≡ true

never : (s : List ℕ) → pays refused s ≡ true → ⊥
never [] h = let o : ◌≡◌ {A = ℕ} 0 1 = cc in omega arith
never (b ∷ s) h = never s h

inside_both : (first last b : ℕ) → within (first to last) b ≡ true → (first ≤ b) × (b ≤ last)
inside_both first last b h = go (leb first b) refl (leb b last) refl h
  where
    go : (x : Bool) → leb first b ≡ x → (y : Bool) → leb b last ≡ y → (x && y) ≡ true → (first ≤ b) × (b ≤ last)
    go true e true f k = (leb-true first b e, leb-true b last f)
    go true e false f k = let o : ◌≡◌ {A = ℕ} 0 1 = cc in absurd (omega arith)
    go false e y f k = let o : ◌≡◌ {A = ℕ} 0 1 = cc in absurd (omega arith)

split : (rs : List Range) (s : List ℕ) → pays (due rs) s ≡ true → Split rs s
split [] s h = record { bytes = []; rest = s; is = refl; matches = tt; pays_rest = h }
split (r ∷ rs) [] h = let o : ◌≡◌ {A = ℕ} 0 1 = cc in absurd (omega arith)
split (first to last ∷ rs) (b ∷ s) h = go (within (first to last) b) refl h (split rs s)
  where
    go : (x : Bool) → within (first to last) b ≡ x → pays (cond x (due rs) refused) s ≡ true → (pays (due rs) s ≡ true → Split rs s) → Split (first to last ∷ rs) (b ∷ s)
    go false e k more_of = absurd (never s k)
    go true e k more_of =
        let w = more_of k in
        let m = inside_both first last b e in
        record { bytes = b ∷ w.bytes; rest = w.rest; is = ap (λ (t : List ℕ). b ∷ t) w.is; matches = (m.0, m.1, w.matches); pays_rest = w.pays_rest }

-- ---- the row that a byte begins, where the text can be paid at all
record Begun (b : ℕ) : Type 0 where
  ranges : List Range
  begins : begin table b ≡ due ranges
  decode : (bs : List ℕ) → Matches ranges bs → Decoded (b ∷ bs)

module _ (b : ℕ) (s : List ℕ) (p : pays (begin table b) s ≡ true) where
  in_row : (low high : ℕ) (rs : List Range) → IsRow low high rs → (low ≤ b) × (b ≤ high) → ((bs : List ℕ) → Matches rs bs → Decoded (b ∷ bs)) → Begun b
  in_row low high rs r h d = record { ranges = rs; begins = same_row low high b h.0 h.1 r.unparted ∙ r.begins; decode = d }

  no_row : (low high : ℕ) → T (unparted_by table low high) → begin table low ≡ refused → (low ≤ b) × (b ≤ high) → Begun b
  no_row low high t e h = absurd (never s (sym (ap (λ (d : Due). pays d s) (same_row low high b h.0 h.1 t ∙ e)) ∙ p))

  row_three : (low high first last : ℕ) → IsRow low high (first to last ∷ 0x80 to 0xBF ∷ []) → (low ≤ b) × (b ≤ high) → (0xE0 ≤ b) × (b ≤ 0xEF) × (0x80 ≤ first) × (last ≤ 0xBF)
      → ((x y : ℕ) → Matches (first to last ∷ 0x80 to 0xBF ∷ []) (x ∷ y ∷ []) → (0x7FF < three_value b x y) × Scalar (three_value b x y)) → Begun b
  row_three low high first last r h k f = in_row low high (first to last ∷ 0x80 to 0xBF ∷ []) r h (of_three b first last k f)

  row_four : (low high first last : ℕ) → IsRow low high (first to last ∷ 0x80 to 0xBF ∷ 0x80 to 0xBF ∷ []) → (low ≤ b) × (b ≤ high) → (0xF0 ≤ b) × (0x80 ≤ first) × (last ≤ 0xBF)
      → ((x y z : ℕ) → Matches (first to last ∷ 0x80 to 0xBF ∷ 0x80 to 0xBF ∷ []) (x ∷ y ∷ z ∷ []) → (0xFFFF < four_value b x y z) × (four_value b x y z ≤ 0x10FFFF)) → Begun b
  row_four low high first last r h k f = in_row low high (first to last ∷ 0x80 to 0xBF ∷ 0x80 to 0xBF ∷ []) r h (of_four b first last k f)

  from_F0 : 0xF0 ≤ b → Dec (b ≤ 0xF0) → Dec (b ≤ 0xF3) → Dec (b ≤ 0xF4) → Begun b
  unfolding table
  from_F0 h (yes i) y z = row_four 0xF0 0xF0 0x90 0xBF (record { unparted = tt; begins = refl }) (omega arith) (omega arith) (λ x y z m. omega arith)
  from_F0 h (no i) (yes j) z = row_four 0xF1 0xF3 0x80 0xBF (record { unparted = tt; begins = refl }) (omega arith) (omega arith) (λ x y z m. omega arith)
  from_F0 h (no i) (no j) (yes k) = row_four 0xF4 0xF4 0x80 0x8F (record { unparted = tt; begins = refl }) (omega arith) (omega arith) (λ x y z m. omega arith)
  from_F0 h (no i) (no j) (no k) = no_row 0xF5 b tt refl (omega arith)

  from_E0 : 0xE0 ≤ b → Dec (b ≤ 0xE0) → Dec (b ≤ 0xEC) → Dec (b ≤ 0xED) → Dec (b ≤ 0xEF) → Begun b
  unfolding table
  from_E0 h (yes i) y z w = row_three 0xE0 0xE0 0xA0 0xBF (record { unparted = tt; begins = refl }) (omega arith) (omega arith) (λ x y m. (omega arith, below (omega arith)))
  from_E0 h (no i) (yes j) z w = row_three 0xE1 0xEC 0x80 0xBF (record { unparted = tt; begins = refl }) (omega arith) (omega arith) (λ x y m. (omega arith, below (omega arith)))
  from_E0 h (no i) (no j) (yes k) w = row_three 0xED 0xED 0x80 0x9F (record { unparted = tt; begins = refl }) (omega arith) (omega arith) (λ x y m. (omega arith, below (omega arith)))
  from_E0 h (no i) (no j) (no k) (yes l) =
      row_three 0xEE 0xEF 0x80 0xBF (record { unparted = tt; begins = refl }) (omega arith) (omega arith) (λ x y m. (omega arith, above (omega arith) (omega arith)))
  from_E0 h (no i) (no j) (no k) (no l) = from_F0 (omega arith) (dec_le b 0xF0) (dec_le b 0xF3) (dec_le b 0xF4)

  from_0 : Dec (b ≤ 0x7F) → Dec (b ≤ 0xC1) → Dec (b ≤ 0xDF) → Begun b
  unfolding table
  from_0 (yes i) y z = in_row 0x00 0x7F [] (record { unparted = tt; begins = refl }) (omega arith) (of_one b i)
  from_0 (no i) (yes j) z = no_row 0x80 0xC1 tt refl (omega arith)
  from_0 (no i) (no j) (yes k) = in_row 0xC2 0xDF (0x80 to 0xBF ∷ []) (record { unparted = tt; begins = refl }) (omega arith) (of_two b (omega arith))
  from_0 (no i) (no j) (no k) = from_E0 (omega arith) (dec_le b 0xE0) (dec_le b 0xEC) (dec_le b 0xED) (dec_le b 0xEF)

  begun : Begun b
  begun = from_0 (dec_le b 0x7F) (dec_le b 0xC1) (dec_le b 0xDF)

-- ---- a text, one sequence after the other; n bounds its length
nothing : Encoded []
nothing = record { values = []; scalars = none; is = refl }

decoded : (n : ℕ) (s : List ℕ) → length s ≤ n → pays (due []) s ≡ true → Encoded s
decoded zero [] h p = nothing
decoded zero (b ∷ s) h p = absurd (not-suc-le-zero h)
decoded (suc n) [] h p = nothing
decoded (suc n) (b ∷ s) h p = go (begun b s p) (λ t k q. decoded n t k q)
  where
    go : Begun b → ((t : List ℕ) → length t ≤ n → pays (due []) t ≡ true → Encoded t) → Encoded (b ∷ s)
    go x rest =
        let w = split x.ranges s (sym (ap (λ (d : Due). pays d s) x.begins) ∙ p) in
        let d = x.decode w.bytes w.matches in
        let e = rest w.rest (omega (arith, ap length w.is, length-append w.bytes w.rest)) w.pays_rest in
        record {
          values = d.value ∷ e.values;
          scalars = more d.scalar e.scalars;
          is = ap (λ (t : List ℕ). b ∷ t) (w.is ∙ ap (λ (t : List ℕ). w.bytes ++ t) e.is) ∙ ap (λ (q : List ℕ). q ++ encoded e.values) (sym d.is);
        }

pub well_formed_encoded : (s : List ℕ) → well_formed s ≡ true → Encoded s
unfolding well_formed
well_formed_encoded s h = decoded (length s) s (omega arith) h
