-- `spell` meets its contract: each turn lays one digit more, from the last to the first. Assumes nothing.
use Rattle.numerals.proofs.Spelling.{Spelling}
use Rattle.numerals.proofs.spell.Given as goal

abbrev pub invariant-loop-left : goal.invariant-loop-left
invariant-loop-left l = Spelling l.initial.out l.at l.n l.base l.count l.out l.rest l.left
