-- `next_step` meets its contract: an end is sought, or the window tells what is next. Assumes nothing.
use Rattle.std.proofs.Common.{arith, rules}
use Rattle.raw_file.specs.declared.InWindow.TheVariants.{Next, More, End}
use Rattle.window.proofs.Answers.{next_sought, next_told}
use Rattle.window.proofs.next_step.Goals as goal

pub returns-then-places-gt0 : goal.returns-then-places-gt0
returns-then-places-gt0 c = let a = c.args in next_sought a.places a.window.now a.more _ (omega arith) c.seek_end.ensures

pub returns-in-Next : goal.returns-in-Next
returns-in-Next c =
    let a = c.args in
    next_told a.places a.window.now a.more _ _ _ (Next c.in-Next.next) (omega arith) c.new.ensures c.next_in.ensures c.in-Next.is
    c.tell_packet.ensures

pub returns-in-More : goal.returns-in-More
returns-in-More c =
    let a = c.args in
    next_told a.places a.window.now a.more _ _ _ (More c.in-More.from) (omega arith) c.new.ensures c.next_in.ensures c.in-More.is
    c.read_on.ensures

pub returns-in-End : goal.returns-in-End
returns-in-End c =
    let a = c.args in
    next_told a.places a.window.now a.more _ _ _ End (omega arith) c.new.ensures c.next_in.ensures c.in-End.is (search rules)
