-- `latin1_len` meets its contract, by the last byte that is no zero. Assumes nothing.
use Rattle.std.proofs.Common.{rules, ap, sym, length}
use Rattle.texts.proofs.Kept.{all_zeros, last_kept}
use Rattle.texts.proofs.latin1_len.Goals as goal

pub returns-in-Some : goal.returns-in-Some
returns-in-Some c = last_kept c.args.text.now c.in-Some.last (search rules) (search rules) (search rules)

pub returns-in-None : goal.returns-in-None
returns-in-None c = sym (ap length (all_zeros c.args.text.now (search rules)))
