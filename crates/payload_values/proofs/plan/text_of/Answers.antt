-- `text_of` meets its contract. Assumes nothing.
use native.Mathlib.Omega.{arith}
use Rattle.elements.specs.Types.{width_of}
use Rattle.value.specs.declared.Kind.TheVariants as kind
use Rattle.payload_values.proofs.plan.text_of.Goals as goal

pub returns : goal.returns
unfolding width_of
returns c = record { is = λ i. record { kind = kind.Text; rows = 1; columns = c.latin1_len.ensures i; letter = 66 }; counted = record { cells = omega arith; bytes = omega arith } }
