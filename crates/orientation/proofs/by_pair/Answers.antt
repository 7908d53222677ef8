-- `by_pair` meets its contract: what stands is read. Assumes nothing.
use mathlib.Core.Path.{ap, ◌∙◌}
use Rattle.std.specs.Prelude.{Ok}
use Rattle.foundation.specs.Text.{key}
use Rattle.tagged.proofs.Laws.{item_there}
use Rattle.orientation.proofs.by_pair.Goals as goal

pub by_texts-requires-clause-orin : goal.by_texts-requires-clause-orin
by_texts-requires-clause-orin c =
    let g = c.args.group in
    item_there g.payload.now g.rows.now g.count g.kind g.key 9 (key "ORIN") _ _ c.tagged.ensures (c.in_ok-orin.was ∙ ap Ok c.in-Some.is)

pub by_texts-requires-clause-orio : goal.by_texts-requires-clause-orio
by_texts-requires-clause-orio c =
    let g = c.args.group in
    item_there g.payload.now g.rows.now g.count g.kind g.key 10 (key "ORIO") _ _ c.tagged-2.ensures (c.in_ok-orio.was ∙ ap Ok c.in-Some-2.is)
