-- `number_in` meets its contract, by the law of search. Assumes nothing.
use Rattle.keys.proofs.Search.{Sought}
use Rattle.keys.proofs.number_in.Given as goal

abbrev pub invariant-loop-known : goal.invariant-loop-known
invariant-loop-known l = Sought l.table l.key l.known-index
