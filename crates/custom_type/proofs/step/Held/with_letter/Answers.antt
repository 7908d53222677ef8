-- `with_letter` follows the expansion, behind a `[` and elsewhere. Assumes nothing.
use Rattle.custom_type.proofs.Follow.{collected_follows, letter_follows}
use Rattle.custom_type.proofs.step.Held.with_letter.Goals as goal

pub returns-then-self : goal.returns-then-self
returns-then-self c =
    let a = c.args in
    collected_follows a.self a.c c.with-more.result c.if-self.true c.with-more.ensures

pub returns : goal.returns
returns c =
    let a = c.args in
    letter_follows a.self a.c c.copied_as.result c.if-self.false c.copied_as.ensures
