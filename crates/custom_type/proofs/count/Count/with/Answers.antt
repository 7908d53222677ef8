-- `with` meets its contract, by what was collected and the character. Assumes nothing.
use native.Mathlib.Omega.{arith}
use borrow.Author.Tests.{eq-eqb, ne_eqb}
use Rattle.custom_type.specs.Held.{next_count}
use Rattle.custom_type.proofs.count.Count.with.Goals as goal

pub returns-in-Empty : goal.returns-in-Empty
unfolding next_count
returns-in-Empty c = rw (c.in-Empty.is, eq-eqb c.args.c 43 (omega arith))

pub returns-in-Empty-2 : goal.returns-in-Empty-2
unfolding next_count
returns-in-Empty-2 c = rw (c.in-Empty-2.is, ne_eqb c.args.c 43 (omega arith)) c.with_digit.ensures

pub returns-in-Number : goal.returns-in-Number
unfolding next_count
returns-in-Number c = rw c.in-Number.is c.with_digit-in-Number.ensures

pub returns-in-Unreadable : goal.returns-in-Unreadable
unfolding next_count
returns-in-Unreadable c = rw c.in-Unreadable.is
