-- `after_first` meets its contract: each arm's bytes begin the same row of the table. Assumes nothing.
use native.Mathlib.Omega.{arith}
use mathlib.Core.Path.{sym}
use Rattle.texts.specs.Utf8.{table}
use Rattle.texts.proofs.Table.{same_row}
use Rattle.utf8.proofs.after_first.Goals as goal

pub returns-in-224 : goal.returns-in-224
unfolding table
returns-in-224 c = sym (same_row 0xE0 0xE0 c.args.b (omega arith) (omega arith) tt)

pub returns-in-237 : goal.returns-in-237
unfolding table
returns-in-237 c = sym (same_row 0xED 0xED c.args.b (omega arith) (omega arith) tt)

pub returns-in-240 : goal.returns-in-240
unfolding table
returns-in-240 c = sym (same_row 0xF0 0xF0 c.args.b (omega arith) (omega arith) tt)

pub returns-in-244 : goal.returns-in-244
unfolding table
returns-in-244 c = sym (same_row 0xF4 0xF4 c.args.b (omega arith) (omega arith) tt)

pub returns-in-0-to-127 : goal.returns-in-0-to-127
unfolding table
returns-in-0-to-127 c = sym (same_row 0x00 0x7F c.args.b (omega arith) (omega arith) tt)

pub returns-in-194-to-223 : goal.returns-in-194-to-223
unfolding table
returns-in-194-to-223 c = sym (same_row 0xC2 0xDF c.args.b (omega arith) (omega arith) tt)

pub returns-in-225-to-236 : goal.returns-in-225-to-236
unfolding table
returns-in-225-to-236 c = sym (same_row 0xE1 0xEC c.args.b (omega arith) (omega arith) tt)

pub returns-in-238-to-239 : goal.returns-in-238-to-239
unfolding table
returns-in-238-to-239 c = sym (same_row 0xEE 0xEF c.args.b (omega arith) (omega arith) tt)

pub returns-in-241-to-243 : goal.returns-in-241-to-243
unfolding table
returns-in-241-to-243 c = sym (same_row 0xF1 0xF3 c.args.b (omega arith) (omega arith) tt)

pub returns-in_default : goal.returns-in_default
unfolding table
returns-in_default c = sym (same_row 0x80 0xC1 c.args.b (omega arith) (omega arith) tt)

pub returns-in_default-2 : goal.returns-in_default-2
unfolding table
returns-in_default-2 c = sym (same_row 0xF5 0xFF c.args.b (omega arith) (omega arith) tt)
