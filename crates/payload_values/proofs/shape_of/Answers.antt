-- `shape_of` meets its contract: by the plan. Assumes nothing.
use mathlib.Core.Path.{subst}
use Rattle.value.specs.Value.{ValueOutcome}
use Rattle.value.specs.Answer.{shape_in}
use Rattle.payload_values.specs.Small.{CountedPlan}
use Rattle.payload_values.proofs.Plans.{by_plan}
use Rattle.payload_values.proofs.shape_of.Goals as goal

pub shape-requires : goal.shape-requires
shape-requires c = subst CountedPlan c.in-Even.is c.plan_of.ensures.counted

pub returns-in-Even : goal.returns-in-Even
returns-in-Even c =
    let a = c.args in
    by_plan (λ (o : ValueOutcome). shape_in a.place o) a.klv a.payload.now a.type_text.now c.plan_of.ensures c.in-Even.is c.shape.ensures

pub returns-in-Texts : goal.returns-in-Texts
returns-in-Texts c =
    let a = c.args in
    by_plan (λ (o : ValueOutcome). shape_in a.place o) a.klv a.payload.now a.type_text.now c.plan_of.ensures c.in-Texts.is c.shape-in-Texts.ensures

pub returns-in-Date : goal.returns-in-Date
returns-in-Date c =
    let a = c.args in
    by_plan (λ (o : ValueOutcome). shape_in a.place o) a.klv a.payload.now a.type_text.now c.plan_of.ensures c.in-Date.is c.date_shape.ensures

pub returns-in-Structures : goal.returns-in-Structures
returns-in-Structures c =
    let a = c.args in
    by_plan (λ (o : ValueOutcome). shape_in a.place o) a.klv a.payload.now a.type_text.now c.plan_of.ensures c.in-Structures.is c.shape-in-Structures.ensures
