use Rattle.std.proofs.Common.{get_or, nat_eq}
use native.Mathlib.Omega.{arith}
use Rattle.pieces.proofs.Splitting.{piece_counts, at_most_one, last_piece}
use Rattle.pieces.proofs.pieces.Goals as goal

pub loop-c-preserved : goal.loop-c-preserved
loop-c-preserved c =
    let a = c.args in
    let i = c.loop-c.c-index in
    let next = piece_counts a.b a.s.now i (omega arith) in
    let one = at_most_one (nat_eq (get_or a.s.now i 0) a.b) in
    (omega (arith, next, c.from-count.ensures), omega (arith, one, c.from-count.ensures))

pub returns : goal.returns
returns c = omega (arith, last_piece c.args.b c.args.s.now c.loop-c.c-index (omega arith))
