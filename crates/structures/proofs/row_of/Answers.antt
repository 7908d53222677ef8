use mathlib.Core.Path.{ap}
use native.Mathlib.Omega.{arith}
use lib.ListN.{length}
use Rattle.value.specs.Value.{widths_of}
use Rattle.structures.proofs.Letters.{skipped, more_columns, more_bytes, none_left}
use Rattle.structures.proofs.row_of.Goals as goal
use Rattle.structures.proofs.row_of.Goals.{then-bytes-gt0, else-bytes-gt0}

pub loop-letter-init : goal.loop-letter-init
loop-letter-init c = (omega arith, omega arith, omega arith, omega arith)

pub loop-letter-preserved : goal.loop-letter-preserved
loop-letter-preserved c =
    let i = c.loop-letter.letter-index in
    let letters = c.args.letters.now in
    elim c.if-bytes-gt0.branch [
      | then-bytes-gt0 w ↦ let columns = more_columns letters i (omega arith) c.width-bytes.result c.width-bytes.ensures.0 w.if-bytes-gt0.true in
          let bytes = more_bytes letters i (omega arith) c.width-bytes.result c.width-bytes.ensures.0 w.if-bytes-gt0.true in
          (omega arith, omega arith, omega arith, omega arith)
      | else-bytes-gt0 w ↦ let same = skipped letters i (omega arith) c.width-bytes.result c.width-bytes.ensures.0 w.if-bytes-gt0.false in
          let columns = ap length same in
          let bytes = ap widths_of same in
          (omega arith, omega arith, omega arith, omega arith)
    ]

pub returns : goal.returns
unfolding widths_of
returns c =
    let none = none_left c.args.letters.now c.loop-letter.letter-index (omega arith) in
    let columns = ap length none in
    let bytes = ap widths_of none in
    record { columns = omega arith; width = omega arith; small = omega arith }
