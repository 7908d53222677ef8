-- `element_of` meets its contract: by the plan. Assumes nothing.
use mathlib.Core.Path.{subst}
use Rattle.value.specs.Value.{ValueOutcome}
use Rattle.value.specs.Answer.{element_in}
use Rattle.payload_values.specs.Small.{CountedPlan}
use Rattle.payload_values.proofs.Plans.{by_plan}
use Rattle.payload_values.proofs.element_of.Goals as goal

pub element-requires : goal.element-requires
element-requires c = subst CountedPlan c.in-Even.is c.plan_of.ensures.counted

pub returns-in-Even : goal.returns-in-Even
returns-in-Even c =
    let a = c.args in
    by_plan (λ (o : ValueOutcome). element_in a.place o a.row a.column) a.klv a.payload.now a.type_text.now c.plan_of.ensures c.in-Even.is c.element.ensures

pub returns-in-Texts : goal.returns-in-Texts
returns-in-Texts c =
    let a = c.args in
    by_plan (λ (o : ValueOutcome). element_in a.place o a.row a.column) a.klv a.payload.now a.type_text.now c.plan_of.ensures c.in-Texts.is c.element-in-Texts.ensures

pub returns-in-Date : goal.returns-in-Date
returns-in-Date c =
    let a = c.args in
    by_plan (λ (o : ValueOutcome). element_in a.place o a.row a.column) a.klv a.payload.now a.type_text.now c.plan_of.ensures c.in-Date.is c.date_element.ensures

pub returns-in-Structures : goal.returns-in-Structures
returns-in-Structures c =
    let a = c.args in
    by_plan (λ (o : ValueOutcome). element_in a.place o a.row a.column) a.klv a.payload.now a.type_text.now c.plan_of.ensures c.in-Structures.is c.element-in-Structures.ensures
