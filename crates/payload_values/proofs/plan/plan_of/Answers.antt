-- `plan_of` meets its contract: each return by the tests that led there. Assumes nothing.
use mathlib.Core.Path.{sym, ◌∙◌}
use Rattle.payload_values.proofs.Plans.{plan_quaternions, plan_numbers, plan_text, plan_letter}
use Rattle.payload_values.proofs.plan.plan_of.Goals as goal

pub returns-then-is_quaternions : goal.returns-then-is_quaternions
returns-then-is_quaternions c = plan_quaternions c.args.klv c.args.payload.now c.quaternions_of.result (sym c.is_quaternions.ensures ∙ c.if-is_quaternions.true) c.quaternions_of.ensures

pub numbers_of-requires : goal.numbers_of-requires
numbers_of-requires c = (c.width-width.ensures.0, c.if-width-gt0.true, c.width-width.ensures.1)

pub returns-then-width-gt0 : goal.returns-then-width-gt0
returns-then-width-gt0 c = plan_numbers c.args.klv c.args.payload.now (sym c.is_quaternions.ensures ∙ c.if-is_quaternions.false) c.numbers_of.result c.width-width.result c.width-width.ensures.0 c.if-width-gt0.true c.numbers_of.ensures

pub returns-then-is_one_text : goal.returns-then-is_one_text
returns-then-is_one_text c = plan_text c.args.klv c.args.payload.now (sym c.is_quaternions.ensures ∙ c.if-is_quaternions.false) c.width-width.result c.width-width.ensures.0 c.if-width-gt0.false c.text_of.result (sym c.is_one_text.ensures ∙ c.if-is_one_text.true) c.text_of.ensures

pub returns : goal.returns
returns c = plan_letter c.args.klv c.args.payload.now (sym c.is_quaternions.ensures ∙ c.if-is_quaternions.false) c.width-width.result c.width-width.ensures.0 c.if-width-gt0.false c.letter_plan.result (sym c.is_one_text.ensures ∙ c.if-is_one_text.false) c.letter_plan.ensures
