use Rattle.std.proofs.Common.{take, arith}
use lib.Dec.{lit<}
use lib.ListN.{length-take}
use Rattle.foundation.proofs.BigEndian.{next_byte, next_bound, next_fits}
use Rattle.foundation.proofs.big_endian.Goals as goal

pub overflow_mul-number : goal.overflow_mul-number
overflow_mul-number c =
    let l = c.loop-b in
    omega (arith, next_fits l.b-index l.number 0 (omega (arith, length-take c.min-width.result c.args.part.now)) l.invariant.1 (lit< tt))

pub overflow_add-number : goal.overflow_add-number
overflow_add-number c =
    let l = c.loop-b in
    record { fits = next_fits l.b-index l.number c.from.result (omega (arith, length-take c.min-width.result c.args.part.now)) l.invariant.1 (omega arith) }

pub loop-b-preserved : goal.loop-b-preserved
loop-b-preserved c =
    let l = c.loop-b in
    let next = next_byte (take c.min-width.result c.args.part.now) l.b-index (omega arith) in
    (cc, next_bound l.b-index l.number c.from.result l.invariant.1 (omega arith))
