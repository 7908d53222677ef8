-- `KLV::is_one_text` meets its contract: its answer by the tests that led there. Assumes nothing.
use borrow.Author.Tests.{eq-eqb, ne_eqb}
use Rattle.klv.specs.OneText.{one_text}
use Rattle.klv.proofs.KLV.is_one_text.Goals as goal

pub returns-then-self-eq70 : goal.returns-then-self-eq70
unfolding one_text
returns-then-self-eq70 c = simp (eq-eqb _ _ c.if-self-eq70.true)

pub returns-then-self-eq1 : goal.returns-then-self-eq1
unfolding one_text
returns-then-self-eq1 c = simp (ne_eqb _ _ c.if-self-eq70.false, eq-eqb _ _ c.if-self-eq99.true, eq-eqb _ _ c.if-self-eq1.true)

pub returns-else-self-eq1 : goal.returns-else-self-eq1
unfolding one_text
returns-else-self-eq1 c =
    simp (ne_eqb _ _ c.if-self-eq70.false, eq-eqb _ _ c.if-self-eq99.true, ne_eqb _ _ c.if-self-eq1.false)

pub returns-else-self-eq99 : goal.returns-else-self-eq99
unfolding one_text
returns-else-self-eq99 c = simp (ne_eqb _ _ c.if-self-eq70.false, ne_eqb _ _ c.if-self-eq99.false)
