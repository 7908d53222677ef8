-- `overlapping` meets its contract. Assumes nothing.
use Rattle.window.proofs.Answers.{overlaps}
use Rattle.window.proofs.overlapping.Goals as goal

pub returns-in-Some : goal.returns-in-Some
returns-in-Some c =
    let a = c.args in
    overlaps a.base a.found c.in-Some.at _ _ c.in-Some.is c.in_file.ensures c.in_file-in-Some.ensures
