-- `row_shape_at` meets its contract: a header is there, or none is. Assumes nothing.
use mathlib.Core.Path.{◌∙◌}
use native.Mathlib.Omega.{arith}
use Rattle.header_bytes.proofs.HeaderBytes.{is_there, is_not_there, shape_there, row_shape_there, no_row_shape_there}
use Rattle.header_bytes.proofs.row_shape_at.Goals as goal

pub returns-then-no_header : goal.returns-then-no_header
returns-then-no_header c = let a = c.args in no_row_shape_there a.s.now a.place (is_not_there a.s.now a.place _ c.no_header.ensures c.if-no_header.true)

pub overflow_add-place : goal.overflow_add-place
overflow_add-place c =
    let a = c.args in
    omega (arith, is_there a.s.now a.place _ c.no_header.ensures c.if-no_header.false)

pub number-requires : goal.number-requires
number-requires c = let a = c.args in omega (arith, is_there a.s.now a.place _ c.no_header.ensures c.if-no_header.false)

pub returns-else-no_header : goal.returns-else-no_header
returns-else-no_header c =
    let a = c.args in
    let l = is_there a.s.now a.place _ c.no_header.ensures c.if-no_header.false in
    c.number.ensures ∙ shape_there a.s.now a.place l ∙ row_shape_there a.s.now a.place l
