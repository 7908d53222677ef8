-- `unhex_word` meets its contract: no characters, a dash, or a text of hex digits. Assumes nothing.
use mathlib.Core.Path.{sym, ◌∙◌}
use Rattle.words.proofs.Word.{no_word, dash, plain, is_dash_by}
use Rattle.words.proofs.unhex_word.Goals as goal

pub returns-then-word-eq0 : goal.returns-then-word-eq0
returns-then-word-eq0 c =
    let a = c.args in
    no_word a.word.now a.out.now c.if-word-eq0.true

pub returns-then-eq : goal.returns-then-eq
returns-then-eq c =
    let a = c.args in
    dash a.word.now a.out.now c.if-word-eq0.false (is_dash_by a.word.now _ c.as_slice.ensures ∙ sym c.eq.ensures ∙ c.if-eq.true)

pub returns : goal.returns
returns c =
    let a = c.args in
    let other = is_dash_by a.word.now _ c.as_slice.ensures ∙ sym c.eq.ensures ∙ c.if-eq.false in
    plain a.word.now a.out.now _ _ c.if-word-eq0.false other c.unhex.ensures
