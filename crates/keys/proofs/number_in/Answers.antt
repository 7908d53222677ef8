use native.Mathlib.Omega.{arith}
use Rattle.keys.proofs.Search.{hit, miss, none}
use Rattle.keys.proofs.number_in.Goals as goal

pub returns-then-known-key : goal.returns-then-known-key
returns-then-known-key c = hit _ _ _ c.loop-known.invariant _ (omega arith) c.if-known-key.true

pub loop-known-preserved : goal.loop-known-preserved
loop-known-preserved c = miss _ _ _ c.loop-known.invariant _ (omega arith) c.if-known-key.false

pub returns : goal.returns
returns c = none _ _ _ c.loop-known.invariant (omega arith)
