-- `scale_of` meets its contract: a SCAL that was found stands at its place. Assumes nothing.
use Prim.Native.Char.{code}
use mathlib.Core.Path.{ap, sym, ◌∙◌}
use Rattle.std.specs.Prelude.{Ok}
use Rattle.foundation.specs.Text.{key}
use Rattle.tagged.proofs.Laws.{item_there, number_letter}
use Rattle.quaternions.proofs.scale_of.Goals as goal

pub number_at-requires : goal.number_at-requires
number_at-requires c =
    let g = c.args.group in
    record {
      stands = item_there g.payload.now g.rows.now g.count g.kind g.key 4 (key "SCAL") _ _ c.tagged.ensures (c.in_ok-scal.was ∙ ap Ok c.in-Some.is);
      letter = number_letter _ (code "s") (sym c.is_one_number.ensures ∙ c.if-is_one_number.true);
    }
