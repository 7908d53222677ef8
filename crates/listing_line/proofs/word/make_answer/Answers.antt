-- `make_answer` meets its contract: two words with their numbers, which fit. Assumes nothing.
use native.Mathlib.Omega.{arith}
use Rattle.listing_line.proofs.Joining.{makes}
use Rattle.listing_line.proofs.Parts.{rows_parts, refused_parts}
use Rattle.listing_line.proofs.Short.{rows_short, refused_short}
use borrow.Author.Rules.{rules}
use Rattle.listing_line.proofs.word.make_answer.Goals as goal

pub returns-in-Ok : goal.returns-in-Ok
returns-in-Ok c =
    let a = c.args in
    makes a.line.now (rows_short a.answer _ _ c.in-Ok.is (search rules) (search rules)) (omega arith) (omega arith) c.put_pairs.auto.out (rw (← rows_parts a.answer _ _ c.in-Ok.is) c.put_pairs.ensures)

pub returns-in-Err : goal.returns-in-Err
returns-in-Err c =
    let a = c.args in
    makes a.line.now (refused_short a.answer _ _ c.in-Err.is (search rules) (search rules)) (omega arith) (omega arith) c.put_pairs-in-Err.auto.out (rw (← refused_parts a.answer _ _ c.in-Err.is) c.put_pairs-in-Err.ensures)
