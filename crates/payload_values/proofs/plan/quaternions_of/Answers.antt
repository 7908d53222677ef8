-- `quaternions_of` meets its contract. Assumes nothing.
use lib.Dec.{lit<, lit≤}
use Rattle.elements.specs.Types.{width_of}
use Rattle.value.specs.declared.Kind.TheVariants as kind
use Rattle.payload_values.proofs.Plans.{counted}
use Rattle.payload_values.proofs.plan.quaternions_of.Goals as goal

pub returns : goal.returns
unfolding width_of
returns c = record { is = λ i. record { kind = kind.Quaternions; rows = c.wider.ensures.0 i; columns = 4; letter = 115 }; counted = counted (record { kind = kind.Quaternions; rows = c.wider.result; columns = 4; letter = 115 }) c.wider.ensures.1 (lit< tt) (lit≤ tt) }
