-- `is_ascii` meets its contract: the bytes passed and those to come are ASCII as the whole is. Assumes nothing.
use mathlib.Core.Path.{◌≡◌}
use mathlib.Core.Bool.{◌&&◌}
use lib.ListN.{drop}
use Rattle.utf8.specs.Expected.{ascii}
use Rattle.utf8.proofs.is_ascii.Given as goal

abbrev pub invariant-loop-b : goal.invariant-loop-b
invariant-loop-b l = (l.only && ascii (drop l.b-index l.text)) ≡ ascii l.text
