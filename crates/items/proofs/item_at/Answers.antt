-- `item_at` meets its contract. Assumes nothing.
use mathlib.Core.Path.{ap, ◌∙◌}
use native.Mathlib.Omega.{arith}
use Rattle.std.specs.Prelude.{Err}
use Rattle.items.proofs.Places.{heard, at_limit, past_room, at_short, at_whole, at_over}
use Rattle.items.proofs.item_at.Goals as goal

pub returns-then-s-gt-MOST_BYTES : goal.returns-then-s-gt-MOST_BYTES
returns-then-s-gt-MOST_BYTES c = at_limit c.args.s.now c.args.at c.args.type_at c.if-s-gt-MOST_BYTES.true c.at.result c.at.ensures

pub overflow_add-at : goal.overflow_add-at
overflow_add-at c = omega (arith, past_room c.args.s.now c.args.at c.args.type_at (heard c.args.s.now c.new.ensures c.parse_header.ensures (c.in-Err-Past.is ∙ ap Err c.in-Err-Past.field-0-is)))

pub bounds-s-at : goal.bounds-s-at
bounds-s-at c = omega (arith, past_room c.args.s.now c.args.at c.args.type_at (heard c.args.s.now c.new.ensures c.parse_header.ensures (c.in-Err-Past.is ∙ ap Err c.in-Err-Past.field-0-is)))

pub returns-in-Err-Short : goal.returns-in-Err-Short
returns-in-Err-Short c =
    at_short c.args.s.now c.args.at c.args.type_at c.if-s-gt-MOST_BYTES.false
    (heard c.args.s.now c.new.ensures c.parse_header.ensures (c.in-Err-Short.is ∙ ap Err c.in-Err-Short.field-0-is)) c.at-in-Err-Short.result c.at-in-Err-Short.ensures

pub returns-in-Err-Past : goal.returns-in-Err-Past
returns-in-Err-Past c = at_over c.args.s.now c.args.at c.args.type_at c.if-s-gt-MOST_BYTES.false c.over.result (heard c.args.s.now c.new.ensures c.parse_header.ensures (c.in-Err-Past.is ∙ ap Err c.in-Err-Past.field-0-is)) c.over.ensures

pub returns-in-Ok : goal.returns-in-Ok
returns-in-Ok c = at_whole c.args.s.now c.args.at c.args.type_at c.if-s-gt-MOST_BYTES.false c.whole.result c.whole.ensures
