-- `lookup` meets its contract. The loop's invariant: what is found among all the rows is what is found among those
-- that are left. Assumes nothing.
use mathlib.Core.Path.{◌≡◌}
use Rattle.std.specs.Prelude.{Ok}
use Rattle.rows.specs.Lookup.{lookup_of}
use Rattle.rows.proofs.Search.{among}
use Rattle.rows.proofs.lookup.Given as goal

abbrev pub invariant-loop-n : goal.invariant-loop-n
invariant-loop-n l = lookup_of l.group_kind l.group_key l.tag l.key l.rows l.count ≡ Ok (among l.group_kind l.group_key l.tag l.key l.n l.rows)
