-- `is_utf8` meets its contract: an ASCII text is well formed. Assumes nothing.
use mathlib.Core.Path.{sym, ◌∙◌}
use Rattle.utf8.proofs.Ascii.{ascii_well_formed}
use Rattle.utf8.proofs.is_utf8.Goals as goal

pub returns-then-is_ascii : goal.returns-then-is_ascii
returns-then-is_ascii c = sym (ascii_well_formed c.args.text.now (sym c.is_ascii.ensures ∙ c.if-is_ascii.true))
