-- `print` meets its contract: over the limit the refusal alone, else the listing, each of which fits. Assumes nothing.
use Rattle.std.proofs.Common.{rules, arith}
use Rattle.gpmf_list.proofs.Printing.{prints_refused, prints_read}
use Rattle.gpmf_list.proofs.print.Goals as goal

pub returns-then-payload-gt-MOST_HELD : goal.returns-then-payload-gt-MOST_HELD
returns-then-payload-gt-MOST_HELD c =
    prints_refused c.args.payload.now c.args.out.now (omega arith) (search rules) c.put_answer.auto.out (rw c.at.ensures at c.put_answer.ensures)

pub returns : goal.returns
returns c =
    prints_read c.args.payload.now c.args.rows.now c.args.out.now (omega arith) (search rules) (search rules) c.list.auto.out c.list.ensures
