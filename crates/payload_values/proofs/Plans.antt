-- The plan of an item: the grids that 64 bits count, and the letter that settles the rest. Assumes nothing.
use Prim.Native.Nat.{ℕ, ◌*◌, ◌<◌, ◌≤◌}
use mathlib.Core.Path.{◌≡◌, sym, ap, ◌∙◌}
use mathlib.Core.Bool.{true, false}
use mathlib.Core.List.{List}
use native.Mathlib.Nat.{mul-le-mul, mul_comm}
use native.Mathlib.Omega.{arith}
use borrow.Author.Tests.{eq-eqb, ne_eqb}
use lib.Dec.{eqb}
use Rattle.klv.specs.declared.KLV.{KLV}
use Rattle.klv.specs.OneText.{one_text}
use Rattle.klv.proofs.Length.{product_bound}
use Rattle.elements.specs.Types.{width_of}
use Rattle.value.specs.declared.Grid.{Grid}
use Rattle.value.specs.declared.Plan.{Plan}
use Rattle.value.specs.declared.Plan.TheVariants.{Even}
use Rattle.value.specs.Value.{ValueOutcome, is_quaternions, quaternions, numbers, text, plan_of, value_by, value_of}
use Rattle.payload_values.specs.Small.{Counted, SmallGrid, LetterPlanned, Planned}

-- a 16-bit repeat, a byte's worth of columns and a letter of 8 bytes at most
pub counted : (g : Grid) → g.rows < 65536 → g.columns < 256 → width_of g.letter ≤ 8 → Counted g
counted g r c w =
    let cells : g.columns * g.rows < 16777216 = product_bound g.columns g.rows c r in
    let turned : g.rows * g.columns ≡ g.columns * g.rows = mul_comm g.rows g.columns in
    let few : g.rows * g.columns ≤ 16777216 = omega arith in
    let bytes : g.rows * g.columns * width_of g.letter ≤ 16777216 * 8 = mul-le-mul few w in
    record { cells = omega arith; bytes = omega arith }

module _ (h : KLV) (payload : List ℕ) where
  pub plan_quaternions : (g : Grid) → is_quaternions h ≡ true → SmallGrid (quaternions h) g → Planned h payload (Even g)
  unfolding plan_of
  plan_quaternions g q s = record { is = ap Even s.is ∙ sym (simp q); counted = s.counted }

  module _ (q : is_quaternions h ≡ false) where
    pub plan_numbers : (g : Grid) (width : ℕ) → width ≡ width_of h.data_type → 0 < width → SmallGrid (numbers h) g → Planned h payload (Even g)
    unfolding plan_of
    plan_numbers g width e k s =
        let some : eqb (width_of h.data_type) 0 ≡ false = ne_eqb (width_of h.data_type) 0 (λ z. absurd (omega arith)) in
        record { is = ap Even s.is ∙ sym (simp (q, some)); counted = s.counted }

    module _ (width : ℕ) (e : width ≡ width_of h.data_type) (k : width ≤ 0) where
      none : eqb (width_of h.data_type) 0 ≡ true
      none = eq-eqb (width_of h.data_type) 0 (omega arith)

      pub plan_text : (g : Grid) → one_text h ≡ true → SmallGrid (text payload) g → Planned h payload (Even g)
      unfolding plan_of
      plan_text g t s = record { is = ap Even s.is ∙ sym (simp (q, none, t)); counted = s.counted }

      pub plan_letter : (r : Plan) → one_text h ≡ false → LetterPlanned h.data_type r → Planned h payload r
      unfolding plan_of
      plan_letter r t s = record { is = s.is ∙ sym (simp (q, none, t)); counted = s.counted }

-- what the plan's own answer is, the value's is
pub by_plan : {A : Type 0} (answer : ValueOutcome → A) (h : KLV) (payload type : List ℕ) {r p : Plan} {x : A} → Planned h payload r → r ≡ p
    → x ≡ answer (value_by p h payload type) → x ≡ answer (value_of h payload type)
by_plan answer h payload type s e is = is ∙ ap (λ (p : Plan). answer (value_by p h payload type)) (sym e ∙ s.is)
