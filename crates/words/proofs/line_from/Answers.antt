-- `line_from` meets its contract: the first line of the part from the place on. Assumes nothing.
use mathlib.Core.Path.{ap, ◌∙◌}
use mathlib.Core.List.{[]}
use native.Mathlib.Omega.{arith}
use lib.ListN.{length, get_or, drop, length-drop}
use lib.Seq.{take_all}
use Rattle.foundation.specs.Pieces.{pieces_of}
use Rattle.words.specs.Words.{line_from}
use Rattle.words.proofs.line_from.Goals as goal

pub returns : goal.returns
unfolding line_from
returns c =
    let a = c.args in
    let rest = drop a.from a.s.now in
    c.piece.ensures
    ∙ ap (λ s. get_or (pieces_of 10 s) 0 []) (c.part.ensures ∙ take_all (length a.s.now) rest (omega (arith, length-drop a.from a.s.now)))
