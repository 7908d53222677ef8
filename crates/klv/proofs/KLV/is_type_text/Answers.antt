-- `KLV::is_type_text` meets its contract: the key, and what `is_one_text` answers. Assumes nothing.
use borrow.Author.Tests.{eq-eqb, ne_eqb}
use Rattle.klv.specs.OneText.{type_text}
use Rattle.klv.proofs.KLV.is_type_text.Goals as goal

pub returns-then-self-eq-TYPE : goal.returns-then-self-eq-TYPE
unfolding type_text
returns-then-self-eq-TYPE c = simp (eq-eqb _ _ c.if-self-eq-TYPE.true) c.is_one_text.ensures

pub returns-else-self-eq-TYPE : goal.returns-else-self-eq-TYPE
unfolding type_text
returns-else-self-eq-TYPE c = simp (ne_eqb _ _ c.if-self-eq-TYPE.false)
