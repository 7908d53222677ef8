-- `get_last_klv` meets its contract: over the limit it is refused, else it is the last item from the start on.
-- Assumes nothing.
use mathlib.Core.Path.{sym, ap, ◌∙◌}
use Rattle.std.specs.Prelude.{Err}
use Rattle.reading.proofs.Payload.{last_long, last_within}
use Rattle.last_item.specs.LastItem.{told}
use Rattle.last_item.proofs.get_last_klv.Goals as goal

pub returns-then-payload-gt-MOST_BYTES : goal.returns-then-payload-gt-MOST_BYTES
returns-then-payload-gt-MOST_BYTES c = ap Err c.at.ensures ∙ ap told (sym (last_long c.args.payload.now c.if-payload-gt-MOST_BYTES.true))

pub returns : goal.returns
returns c = c.last_item.ensures ∙ ap told (sym (last_within c.args.payload.now c.if-payload-gt-MOST_BYTES.false))
