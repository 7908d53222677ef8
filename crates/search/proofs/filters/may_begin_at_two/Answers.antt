-- `filters::may_begin_at_two` meets its contract: two bytes that do not agree with the words are neither. Assumes
-- nothing.
use borrow.Author.Rules.{rules}
use Rattle.search.proofs.Find.{not_at_two}
use Rattle.search.proofs.filters.may_begin_at_two.Goals as goal

pub returns : goal.returns
returns c = λ e.
    let a = c.args in
    not_at_two a.s.now a.k a.words.at a.words.bits a.words.are c.from.result c.from-2.result (search rules) c.requires.words_agree c.from.ensures c.from-2.ensures e
