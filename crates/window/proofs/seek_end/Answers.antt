-- `seek_end` meets its contract: by whether a DEVC is found, and whether more follows. Assumes nothing.
use Rattle.std.specs.Prelude.{Some}
use Rattle.std.proofs.Common.{max, ap, ◌∙◌}
use Rattle.window.proofs.Answers.{seeks, seeks_on, seeks_last}
use Rattle.window.proofs.seek_end.Goals as goal

pub returns-then-more : goal.returns-then-more
returns-then-more c =
    let a = c.args in
    seeks_on a.places a.window.now a.more _ _ _ c.find_devc.ensures c.in-None.is c.if-more.true (c.max-from.ensures ∙ ap (max a.places.at) c.saturating_sub.ensures) c.read_from.ensures

pub returns-in-Some : goal.returns-in-Some
returns-in-Some c =
    let a = c.args in
    seeks a.places a.window.now a.more _ _ c.find_devc.ensures (Some c.in-Some.end) c.in-Some.is c.tell_long.ensures

pub returns-else-more : goal.returns-else-more
returns-else-more c =
    let a = c.args in
    seeks_last a.places a.window.now a.more _ _ c.find_devc.ensures c.in-None.is c.if-more.false c.tell_long-in-None.ensures
