-- `bytes_at` meets its contract: by the header of what was found. Assumes nothing.
use Prim.Native.Nat.{◌+◌}
use mathlib.Core.Path.{sym, ap, ◌∙◌}
use native.Mathlib.Omega.{arith}
use Rattle.std.proofs.lemmas.Result.{err_from_is_err_and}
use Rattle.items.specs.At.{Found}
use Rattle.parts.specs.Parts.{placed, bytes_of_found}
use Rattle.parts.proofs.Found.{by_header, by_refusal}
use Rattle.parts.proofs.bytes_at.Goals as goal

pub overflow_add-result : goal.overflow_add-result
overflow_add-result c =
    let a = c.args in
    let there = (by_header a.s.now a.at a.type_at _ c.in_ok-klv.ensures).there in
    omega (arith, there.fits, there.within)

pub returns-in_err-klv : goal.returns-in_err-klv
returns-in_err-klv c =
    let a = c.args in
    let p = err_from_is_err_and c.from_residual.result c.from_residual.ensures.1 in
    rw (p.1, p.2) (ap (λ (x : Found). bytes_of_found x a.at) (sym (by_refusal a.s.now a.at a.type_at _ c.in_err-klv.ensures)))

pub returns : goal.returns
returns c =
    let a = c.args in
    let by = by_header a.s.now a.at a.type_at _ c.in_ok-klv.ensures in
    ap (placed (a.at + 8)) (c.data_len.ensures.0 ∙ sym by.there.is_data) ∙ ap (λ (x : Found). bytes_of_found x a.at) (sym by.is)
