-- `scaled_quaternion` meets its contract: the data that were found stand at their place. Assumes nothing.
use mathlib.Core.Path.{ap, sym, ◌∙◌}
use Rattle.std.specs.Prelude.{Ok}
use Rattle.tagged.proofs.Inside.{quaternions_letter}
use Rattle.tagged.proofs.Laws.{item_there}
use Rattle.quaternions.proofs.scaled_quaternion.Goals as goal

pub quaternion_at-requires : goal.quaternion_at-requires
quaternion_at-requires c =
    let g = c.args.group in
    record {
      stands = item_there g.payload.now g.rows.now g.count g.kind g.key 1 0 _ _ c.tagged.ensures (c.in_ok-data.was ∙ ap Ok c.in-Some.is);
      letter = quaternions_letter _ (sym c.is_quaternions.ensures ∙ c.if-is_quaternions.true);
    }
