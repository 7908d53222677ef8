use mathlib.Core.Path.{refl, sym, ap, ◌∙◌}
use native.Mathlib.Omega.{arith}
use Rattle.std.proofs.lemmas.Slice.{between_to_end}
use Rattle.texts.specs.Texts.{is_well_formed_text}
use Rattle.utf8.proofs.Ascii.{ascii_passed, none_next}
use Rattle.utf8.proofs.is_short_utf8_text.Goals as goal

pub returns-then-text-gt16 : goal.returns-then-text-gt16
returns-then-text-gt16 c = c.is_utf8_text.ensures

pub loop-i-init : goal.loop-i-init
loop-i-init c = refl

pub returns-then-b-eq0 : goal.returns-then-b-eq0
returns-then-b-eq0 c =
    let s = c.args.text.now in
    c.is_utf8_rest.ensures ∙ ap is_well_formed_text (between_to_end s c.loop-i.i _ (omega arith)) ∙ c.loop-i.invariant

pub loop-i-preserved : goal.loop-i-preserved
loop-i-preserved c = sym (ascii_passed c.args.text.now c.loop-i.i (omega arith) (omega arith) (omega arith)) ∙ c.loop-i.invariant

pub returns : goal.returns
returns c = sym (none_next c.args.text.now c.loop-i.i (omega arith)) ∙ c.loop-i.invariant
