-- `is_short_utf8_text` meets its contract: the bytes passed are ASCII and no zeros, so what is left is well formed as all is. Assumes nothing.
use mathlib.Core.Path.{◌≡◌}
use lib.ListN.{drop}
use Rattle.texts.specs.Texts.{is_well_formed_text}
use Rattle.utf8.proofs.is_short_utf8_text.Given as goal

abbrev pub invariant-loop-i : goal.invariant-loop-i
invariant-loop-i l = is_well_formed_text (drop l.i l.text) ≡ is_well_formed_text l.text
