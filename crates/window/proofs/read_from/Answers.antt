-- `read_from` meets its contract. Assumes nothing.
use Rattle.window.proofs.Answers.{reads_from}
use Rattle.window.proofs.read_from.Goals as goal

pub returns : goal.returns
returns c = let a = c.args in reads_from a.places a.from _ c.in_file.ensures
