-- `begins_at` meets its contract: its four tests are the definition's. Assumes nothing.
use borrow.Author.Rules.{rules}
use mathlib.Core.Path.{sym}
use Rattle.search.proofs.Find.{tests}
use Rattle.search.proofs.begins_at.Goals as goal

pub returns : goal.returns
returns c =
    let a = c.args in
    sym (tests a.s.now a.k (search rules))
