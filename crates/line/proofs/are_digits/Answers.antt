-- `are_digits` meets its contract: each character is a digit. Assumes nothing.
use mathlib.Core.Path.{◌∙◌}
use borrow.Author.Rules.{rules}
use borrow.Author.Tests.{tests}
use lib.Dec.{ltb}
use Rattle.std.proofs.lemmas.Iterator.{YieldsList-from_slice}
use Rattle.std.proofs.lemmas.Iterator.Search.{all_from_yields_List}
use Rattle.foundation.specs.Digits.{worth_of}
use Rattle.line.proofs.Reading.{each_digit}
use Rattle.line.proofs.are_digits.Goals as goal

pub returns : goal.returns
returns c =
    let a = c.args in
    all_from_yields_List (λ x. ltb (worth_of x) a.base) _ _ c.all.result c.all.ensures.ran (YieldsList-from_slice a.s.now c.iter.ensures.rest) (λ x b q k. search (rules, tests))
    ∙ each_digit a.base a.s.now
