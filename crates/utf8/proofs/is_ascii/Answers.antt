use mathlib.Core.Path.{◌∙◌}
use native.Mathlib.Omega.{arith}
use Rattle.utf8.proofs.Ascii.{ascii_turn, ascii_end}
use Rattle.utf8.proofs.is_ascii.Goals as goal

pub loop-b-preserved : goal.loop-b-preserved
loop-b-preserved c = ascii_turn c.loop-b.only c.args.text.now c.loop-b.b-index (omega arith) ∙ c.loop-b.invariant

pub returns : goal.returns
returns c = ascii_end c.loop-b.only c.args.text.now c.loop-b.b-index (omega arith) ∙ c.loop-b.invariant
