-- `put_group` meets its contract: a hyphen for the caller's group, else the key. Assumes nothing.
use native.Mathlib.Omega.{arith}
use Rattle.listing_line.proofs.Groups.{group_callers, group_named}
use Rattle.listing_line.proofs.Joining.{joins}
use Rattle.listing_line.proofs.word.put_group.Goals as goal

pub returns-then-row-eq0 : goal.returns-then-row-eq0
returns-then-row-eq0 c = rw (group_callers c.args.row (omega arith)) (joins c.put.ensures)

pub returns : goal.returns
returns c = rw (group_named c.args.row (λ e. omega arith)) (joins c.put_key.ensures)
