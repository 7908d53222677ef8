-- `put_keys` meets its contract: a group and a key, each with a space behind it. Assumes nothing.
use mathlib.Core.Path.{◌∙◌}
use native.Mathlib.Omega.{arith}
use Rattle.listing_line.proofs.Joining.{joins, joins_then}
use Rattle.listing_line.proofs.word.put_keys.Goals as goal

pub returns : goal.returns
returns c =
    let first = joins_then (omega arith) c.put_group-group.auto.out c.put_group-group.ensures (joins c.put-space.ensures) in
    let second = joins_then (omega arith) c.put_key-key.auto.out (joins c.put_key-key.ensures) (joins c.put.ensures) in
    joins_then (omega arith) (c.put-space.auto.out ∙ c.put_group-group.auto.out) first second
