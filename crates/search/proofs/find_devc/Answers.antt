-- `find_devc` meets its contract: what stands before the end is a DEVC. Assumes nothing.
use mathlib.Core.Path.{sym}
use native.Mathlib.Omega.{arith}
use Rattle.search.proofs.First.{before_end, at_end}
use Rattle.search.proofs.find_devc.Goals as goal

pub returns-then-at-file : goal.returns-then-at-file
returns-then-at-file c = sym (before_end _ _ _ c.devc_or_end-at.ensures (omega arith))

pub returns : goal.returns
returns c = sym (at_end _ _ _ c.devc_or_end-at.ensures (omega arith))
