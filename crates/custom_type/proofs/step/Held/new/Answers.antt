-- `Held::new` meets its contract: nothing is gone through yet. Assumes nothing.
use mathlib.Core.Path.{ap}
use mathlib.Core.Bool.{false}
use Rattle.custom_type.specs.declared.count.Count.{Count}
use Rattle.custom_type.proofs.step.Held.new.Goals as goal

pub returns : goal.returns
returns c = ap (λ (k : Count). record { written = false; last = 0; collecting = false; count = k }) c.new.ensures
