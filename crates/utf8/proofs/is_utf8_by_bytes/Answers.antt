use Prim.Native.Nat.{◌+◌}
use mathlib.Core.Path.{refl, sym, ap, ◌∙◌}
use native.Mathlib.Omega.{arith}
use lib.ListN.{drop}
use Rattle.texts.specs.Utf8.{Due, pays, well_formed}
use Rattle.utf8.specs.Expected.{owed}
use Rattle.texts.proofs.Table.{pays_turn, pays_end}
use Rattle.utf8.proofs.is_utf8_by_bytes.Goals as goal

pub loop-b-init : goal.loop-b-init
unfolding well_formed
loop-b-init c = refl

pub loop-b-preserved : goal.loop-b-preserved
loop-b-preserved c =
    let s = c.args.text.now in
    let l = c.loop-b in
    ap (λ (d : Due). pays d (drop (l.b-index + 1) s)) c.after-expected.ensures ∙ sym (pays_turn (owed l.expected) s l.b-index (omega arith)) ∙ l.invariant

pub returns : goal.returns
returns c =
    let l = c.loop-b in
    c.may_end.ensures ∙ sym (pays_end (owed l.expected) c.args.text.now l.b-index (omega arith)) ∙ l.invariant
