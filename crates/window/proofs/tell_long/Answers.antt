-- `tell_long` meets its contract. Assumes nothing.
use Rattle.window.proofs.Answers.{tells_sought}
use Rattle.window.proofs.tell_long.Goals as goal

pub returns : goal.returns
returns c = let a = c.args in tells_sought a.places a.end _ _ c.in_file.ensures c.saturating_sub-bytes.ensures
