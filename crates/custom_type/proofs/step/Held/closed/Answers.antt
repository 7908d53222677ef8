-- `closed` follows the expansion. Assumes nothing.
use Rattle.custom_type.proofs.Follow.{copies_follow}
use Rattle.custom_type.proofs.step.Held.closed.Goals as goal

pub returns : goal.returns
returns c = copies_follow c.args.self c.new-none.result c.copies-times.result c.new-none.ensures c.copies-times.ensures
