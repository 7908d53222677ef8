-- `read_past` meets its contract: the packet and the one that overlaps it. Assumes nothing.
use Rattle.window.proofs.Answers.{seeks_both}
use Rattle.window.proofs.read_past.Goals as goal

pub returns : goal.returns
returns c =
    let a = c.args in
    seeks_both a.places a.window.now a.from _ _ _ _ _ c.in_file.ensures c.in_file-first.ensures c.find_devc.ensures
    c.overlapping-second.ensures c.read_from.ensures
