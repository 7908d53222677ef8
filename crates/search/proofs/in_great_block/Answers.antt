-- `in_great_block` meets its contract: where the other words pass the block there is none in it. Assumes nothing.
use Rattle.search.proofs.in_great_block.Goals as goal

pub returns-then-not-by_words : goal.returns-then-not-by_words
returns-then-not-by_words c = c.by_words.ensures c.if-not-by_words.true
