use Prim.Native.Nat.{ℕ, ◌+◌}
use mathlib.Core.List.{List}
use mathlib.Core.Path.{refl, sym, ap, ◌∙◌}
use native.Mathlib.Omega.{arith}
use lib.ListN.{take, drop, get_or}
use lib.Seq.{take-nil}
use Rattle.value.specs.Value.{column_letters, widths_of}
use Rattle.structures.proofs.Letters.{skipped, same_letter, same_bytes, the_letter, no_bytes, none_left}
use Rattle.structures.proofs.letter_of.Goals as goal
use Rattle.structures.proofs.letter_of.Goals.{then-bytes-gt0+else-left-eq0, else-bytes-gt0}

pub loop-letter-init : goal.loop-letter-init
loop-letter-init c = (refl, omega arith, omega arith)

pub returns-then-left-eq0 : goal.returns-then-left-eq0
returns-then-left-eq0 c =
    let i = c.loop-letter.letter-index in
    let letters = c.args.letters.now in
    let none = no_bytes (column_letters (drop i letters)) c.loop-letter.left c.if-left-eq0.true in
    record {
      letter = the_letter letters i (omega arith) c.width-bytes.result c.width-bytes.ensures.0 c.if-bytes-gt0.true c.loop-letter.left c.if-left-eq0.true ∙ c.loop-letter.invariant.0;
      before = omega (arith, c.loop-letter.invariant.1);
      small = omega arith;
    }

pub loop-letter-preserved : goal.loop-letter-preserved
loop-letter-preserved c =
    let i = c.loop-letter.letter-index in
    let letters = c.args.letters.now in
    let later = column_letters (drop (i + 1) letters) in
    elim c.if-bytes-gt0.branch [
      | then-bytes-gt0+else-left-eq0 w ↦ let letter = same_letter letters i (omega arith) c.width-bytes.result c.width-bytes.ensures.0 w.if-bytes-gt0.true c.loop-letter.left (omega (arith, w.if-left-eq0.false)) in
          let bytes = same_bytes letters i (omega arith) c.width-bytes.result c.width-bytes.ensures.0 w.if-bytes-gt0.true c.loop-letter.left (omega (arith, w.if-left-eq0.false)) in
          let next = ap (λ (k : ℕ). widths_of (take k later)) w.left-is in
          (ap (λ (k : ℕ). get_or later k 0) w.left-is ∙ sym letter ∙ c.loop-letter.invariant.0, omega (arith, c.loop-letter.invariant.1), omega arith)
      | else-bytes-gt0 w ↦ let same = skipped letters i (omega arith) c.width-bytes.result c.width-bytes.ensures.0 w.if-bytes-gt0.false in
          let letter = ap (λ (l : List ℕ). get_or l c.loop-letter.left 0) same in
          let bytes = ap (λ (l : List ℕ). widths_of (take c.loop-letter.left l)) same in
          let next = ap (λ (k : ℕ). widths_of (take k later)) w.left-is in
          (ap (λ (k : ℕ). get_or later k 0) w.left-is ∙ sym letter ∙ c.loop-letter.invariant.0, omega (arith, c.loop-letter.invariant.1), omega arith)
    ]

pub returns : goal.returns
unfolding widths_of
returns c =
    let none = none_left c.args.letters.now c.loop-letter.letter-index (omega arith) in
    let letter = ap (λ xs. get_or xs c.loop-letter.left 0) none in
    let bytes = ap (λ xs. widths_of (take c.loop-letter.left xs)) none in
    let nothing = ap widths_of (take-nil c.loop-letter.left) in
    record { letter = sym letter ∙ c.loop-letter.invariant.0; before = omega (arith, c.loop-letter.invariant.1); small = omega arith }
