-- `is_utf8_by_bytes` meets its contract: what is owed after so many bytes is paid by the rest as the whole text is well formed. Assumes nothing.
use mathlib.Core.Path.{◌≡◌}
use lib.ListN.{drop}
use Rattle.texts.specs.Utf8.{pays, well_formed}
use Rattle.utf8.specs.Expected.{owed}
use Rattle.utf8.proofs.is_utf8_by_bytes.Given as goal

abbrev pub invariant-loop-b : goal.invariant-loop-b
invariant-loop-b l = pays (owed l.expected) (drop l.b-index l.text) ≡ well_formed l.text
