-- `tag_id` meets its contract: its table is the definition's, as both compute. Assumes nothing.
use Rattle.keys.specs.Keys.{tags}
use Rattle.keys.proofs.tag_id.Goals as goal

pub returns : goal.returns
unfolding tags
returns c = c.number_in.ensures
