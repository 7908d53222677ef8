-- `answer_all` ends: each turn takes a line.
use Rattle.std.proofs.Common.{length, ◌-◌}
use Rattle.replay_rows.proofs.answer_all.Given as goal

abbrev pub decreases-loop-from : goal.decreases-loop-from
decreases-loop-from g l = length l.input - l.from
