-- `are_utf8` meets its contract: the texts that are left are well formed as all are. Assumes nothing.
use mathlib.Core.Path.{◌≡◌}
use Rattle.std.specs.Slice.Iter.{chunks_rest, chunks_size}
use Rattle.texts.specs.Texts.{are_well_formed}
use Rattle.utf8.proofs.are_utf8.Given as goal

abbrev pub invariant-loop-text : goal.invariant-loop-text
invariant-loop-text l = (chunks_size l.text-iterator ≡ l.size) × (are_well_formed l.size (chunks_rest l.text-iterator) ≡ are_well_formed l.size l.texts)
