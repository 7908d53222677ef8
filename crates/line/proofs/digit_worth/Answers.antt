-- `digit_worth` meets its contract: as many digits stand before a digit as it is worth. Assumes nothing.
use borrow.Author.Rules.{rules}
use borrow.Author.Tests.{tests}
use Rattle.std.specs.Prelude.{◌==◌}
use Rattle.std.proofs.lemmas.Iterator.{YieldsList-from_slice}
use Rattle.std.proofs.lemmas.Iterator.Search.{position_from_yields_List}
use Rattle.foundation.specs.Digits.{digits}
use Rattle.line.proofs.Reading.{worth_found}
use Rattle.line.proofs.digit_worth.Goals as goal

pub returns : goal.returns
returns c =
    let found = position_from_yields_List (λ x. x == c.args.c) _ _ c.position.result c.position.ensures.ran (YieldsList-from_slice digits c.iter.ensures.rest) (λ x b q k. search (rules, tests)) in
    worth_found c.args.c c.position.result c.unwrap_or.result found c.unwrap_or.ensures
