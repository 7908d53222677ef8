-- `group_from_key` meets its contract: its table is the definition's, as both compute. Assumes nothing.
use mathlib.Core.Path.{ap}
use Prim.Native.Nat.{ℕ}
use Rattle.keys.specs.Keys.{groups}
use Rattle.keys.proofs.group_from_key.Goals as goal

pub returns : goal.returns
unfolding groups
returns c = ap (λ (n : ℕ). record { number = n; key = c.args.key }) c.number_in-number.ensures
