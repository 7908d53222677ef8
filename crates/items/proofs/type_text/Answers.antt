-- `type_text` meets its contract. Assumes nothing.
use Rattle.items.proofs.Places.{heard, type_none, type_by, type_broken}
use Rattle.items.proofs.type_text.Goals as goal

pub returns-then-at-eq-NO_TYPE : goal.returns-then-at-eq-NO_TYPE
returns-then-at-eq-NO_TYPE c = type_none c.args.s.now c.args.at c.if-at-eq-NO_TYPE.true

pub returns-in-Err : goal.returns-in-Err
returns-in-Err c = type_broken c.args.s.now c.args.at c.if-at-eq-NO_TYPE.false _ (heard c.args.s.now c.new.ensures c.parse_header.ensures c.in-Err.is)

pub returns-in-Ok : goal.returns-in-Ok
returns-in-Ok c = type_by c.args.s.now c.args.at c.if-at-eq-NO_TYPE.false c.type_of.result c.type_of.ensures
