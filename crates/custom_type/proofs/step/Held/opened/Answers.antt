-- `opened` follows the expansion. Assumes nothing.
use Rattle.custom_type.proofs.Follow.{opened_follows}
use Rattle.custom_type.proofs.step.Held.opened.Goals as goal

pub returns : goal.returns
returns c = opened_follows c.args.self
