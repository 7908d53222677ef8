-- `seek` meets its contract: in the last three places there is no room, and before them the near places and then those
-- behind are searched. Assumes nothing.
use Prim.Native.Nat.{◌-◌}
use mathlib.Core.Path.{◌≡◌, sym}
use native.Mathlib.Omega.{arith}
use lib.ListN.{length}
use Rattle.std.specs.Prelude.{None}
use Rattle.std.proofs.lemmas.Grind.{common_steps}
use Rattle.search.specs.Search.{find_from}
use Rattle.search.proofs.Find.{no_room, alone}
use Rattle.search.proofs.seek.Goals as goal

pub returns-then-n-lt4 : goal.returns-then-n-lt4
returns-then-n-lt4 c = sym (no_room _ _ (omega arith))

pub returns-then-end-from : goal.returns-then-end-from
returns-then-end-from c = sym (no_room _ _ (omega arith))

pub returns : goal.returns
returns c =
    let s = c.args.file.now in
    let none : find_from s (length s - 3) ≡ None = no_room s (length s - 3) (omega arith) in
    grind (arith, common_steps, none, alone)
