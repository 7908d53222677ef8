-- `columns_of` meets its contract: by the plan; but for texts the shape tells the columns. Assumes nothing.
use mathlib.Core.Path.{subst}
use Rattle.dates.specs.Date.{date_of}
use Rattle.value.specs.Value.{ValueOutcome, gridded, dated, structures}
use Rattle.value.specs.Answer.{columns_in}
use Rattle.payload_values.specs.Small.{CountedPlan}
use Rattle.payload_values.proofs.EvenRows.{by_shape, grid_even, date_even, structure_even}
use Rattle.payload_values.proofs.Plans.{by_plan}
use Rattle.payload_values.proofs.columns_of.Goals as goal

pub shape-requires : goal.shape-requires
shape-requires c = subst CountedPlan c.in-Even.is c.plan_of.ensures.counted

pub returns-in-Even : goal.returns-in-Even
returns-in-Even c =
    let a = c.args in
    by_plan (λ (o : ValueOutcome). columns_in a.place o a.row) a.klv a.payload.now a.type_text.now c.plan_of.ensures c.in-Even.is (by_shape a.place a.row (gridded c.in-Even.grid a.payload.now) (grid_even a.place a.row c.in-Even.grid a.payload.now) c.shape.ensures c.columns_by.ensures)

pub returns-in-Texts : goal.returns-in-Texts
returns-in-Texts c =
    let a = c.args in
    by_plan (λ (o : ValueOutcome). columns_in a.place o a.row) a.klv a.payload.now a.type_text.now c.plan_of.ensures c.in-Texts.is c.columns.ensures

pub returns-in-Date : goal.returns-in-Date
returns-in-Date c =
    let a = c.args in
    by_plan (λ (o : ValueOutcome). columns_in a.place o a.row) a.klv a.payload.now a.type_text.now c.plan_of.ensures c.in-Date.is (by_shape a.place a.row (dated (date_of a.payload.now)) (date_even a.place a.row (date_of a.payload.now)) c.date_shape.ensures c.columns_by-in-Date.ensures)

pub returns-in-Structures : goal.returns-in-Structures
returns-in-Structures c =
    let a = c.args in
    by_plan (λ (o : ValueOutcome). columns_in a.place o a.row) a.klv a.payload.now a.type_text.now c.plan_of.ensures c.in-Structures.is (by_shape a.place a.row (structures a.type_text.now a.klv a.payload.now) (structure_even a.place a.row a.type_text.now a.klv a.payload.now) c.shape-in-Structures.ensures c.columns_by-in-Structures.ensures)
