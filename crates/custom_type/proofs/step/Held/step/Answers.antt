-- `step` follows the expansion, by what the character is. Assumes nothing.
use borrow.Author.Tests.{eq-eqb, ne_eqb}
use Rattle.custom_type.specs.Expansion.{opens, closes, letter}
use Rattle.custom_type.proofs.Follow.{step_follows}
use Rattle.custom_type.proofs.step.Held.step.Goals as goal

pub returns-then-c-eq91 : goal.returns-then-c-eq91
returns-then-c-eq91 c =
    let a = c.args in
    step_follows a.self a.c opens c.opened.result (rw (eq-eqb a.c 91 c.if-c-eq91.true)) c.opened.ensures

pub returns-then-c-eq93 : goal.returns-then-c-eq93
returns-then-c-eq93 c =
    let a = c.args in
    step_follows a.self a.c closes c.closed.result (rw (ne_eqb a.c 91 c.if-c-eq91.false, eq-eqb a.c 93 c.if-c-eq93.true)) c.closed.ensures

pub returns-else-c-eq93 : goal.returns-else-c-eq93
returns-else-c-eq93 c =
    let a = c.args in
    step_follows a.self a.c letter c.with_letter.result (rw (ne_eqb a.c 91 c.if-c-eq91.false, ne_eqb a.c 93 c.if-c-eq93.false)) c.with_letter.ensures
