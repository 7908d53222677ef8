-- `read_on` meets its contract: by how many bytes of the window stand behind the place. Assumes nothing.
use Rattle.std.proofs.Common.{arith}
use Rattle.window.proofs.Answers.{reads_past, reads_on_lem}
use Rattle.window.proofs.read_on.Goals as goal

pub returns-then-from-saturating_sub : goal.returns-then-from-saturating_sub
returns-then-from-saturating_sub c = let a = c.args in reads_past a.places a.window.now a.from _ (omega arith) c.read_past.ensures

pub returns : goal.returns
returns c = let a = c.args in reads_on_lem a.places a.window.now a.from _ (omega arith) c.read_from.ensures
