-- `text_at` meets its contract: by the header of what was found and the columns of the row. Assumes nothing.
use mathlib.Core.Path.{refl, sym, ap, ◌∙◌, subst}
use native.Mathlib.Omega.{arith}
use Prim.Native.Nat.{ℕ}
use Rattle.std.specs.Prelude.{Result}
use Rattle.std.proofs.lemmas.Result.{err_from_is_err_and}
use Rattle.foundation.specs.declared.refusal.Refusal.{Refusal}
use Rattle.value.specs.Value.{value_of}
use Rattle.items.specs.At.{Found}
use Rattle.values.specs.At.{columns_of_found}
use Rattle.parts.specs.Parts.{text_of_found, text_by, SmallRow}
use Rattle.parts.proofs.Found.{by_header, by_refusal}
use Rattle.parts.proofs.Texts.{few_before, by_columns}
use Rattle.parts.proofs.text_at.Goals as goal

pub text_by-requires : goal.text_by-requires
text_by-requires c =
    let a = c.args in
    let by = by_header a.s.now a.at a.type_at c.in_ok-klv.klv c.in_ok-klv.ensures in
    let row = c.in_ok-columns.ensures ∙ ap (λ (x : Found). columns_of_found x a.at a.row) by.is in
    record {
      at_bound = omega (arith, by.there.fits, by.there.within);
      small_row = subst (λ (x : Result ℕ Refusal). SmallRow c.in_ok-klv.klv x a.row) (sym row) (few_before c.in_ok-klv.klv by.payload by.text a.row (value_of c.in_ok-klv.klv by.payload by.text) refl a.at (omega (arith, by.there.fits, by.there.within, by.there.is_data)));
    }

pub returns-in_err-klv : goal.returns-in_err-klv
returns-in_err-klv c =
    let a = c.args in
    let p = err_from_is_err_and c.from_residual.result c.from_residual.ensures.1 in
    rw (p.1, p.2) (ap (λ (x : Found). text_of_found x a.at a.row) (sym (by_refusal a.s.now a.at a.type_at _ c.in_err-klv.ensures)))

pub returns-in_err-columns : goal.returns-in_err-columns
returns-in_err-columns c =
    let a = c.args in
    let by = by_header a.s.now a.at a.type_at c.in_ok-klv.klv c.in_ok-klv.ensures in
    let row = c.in_err-columns.ensures ∙ ap (λ (x : Found). columns_of_found x a.at a.row) by.is in
    let p = err_from_is_err_and c.from_residual-in_err-columns.result c.from_residual-in_err-columns.ensures.1 in
    rw (p.1, p.2) (ap (λ (x : Result ℕ Refusal). text_by c.in_ok-klv.klv x a.at a.row) row
    ∙ by_columns c.in_ok-klv.klv by.payload by.text a.row a.at (value_of c.in_ok-klv.klv by.payload by.text) refl
    ∙ ap (λ (x : Found). text_of_found x a.at a.row) (sym by.is))

pub returns : goal.returns
returns c =
    let a = c.args in
    let by = by_header a.s.now a.at a.type_at c.in_ok-klv.klv c.in_ok-klv.ensures in
    let row = c.in_ok-columns.ensures ∙ ap (λ (x : Found). columns_of_found x a.at a.row) by.is in
    c.text_by.ensures
    ∙ ap (λ (x : Result ℕ Refusal). text_by c.in_ok-klv.klv x a.at a.row) row
    ∙ by_columns c.in_ok-klv.klv by.payload by.text a.row a.at (value_of c.in_ok-klv.klv by.payload by.text) refl
    ∙ ap (λ (x : Found). text_of_found x a.at a.row) (sym by.is)
