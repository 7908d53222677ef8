-- `resolve_custom_type` meets its promise: what was measured is written, and what is refused is not. Assumes nothing.
use mathlib.Core.Path.{◌≡◌, sym, ap, ◌∙◌}
use mathlib.Core.Bool.{Bool, true, false}
use native.Mathlib.Omega.{arith}
use borrow.Author.Tests.{leb-true}
use lib.ListN.{length}
use Rattle.std.proofs.lemmas.Result.{err_from_is_err_and}
use Rattle.custom_type.specs.Expansion.{expanded}
use Rattle.custom_type.specs.Resolved.{fits, laid_if}
use Rattle.custom_type.proofs.Answer.{told_characters, told_over}
use Rattle.custom_type.proofs.resolve_custom_type.Goals as goal

pub write-requires : goal.write-requires
write-requires c =
    let e = expanded c.args.text.now in
    let fit : fits e ≡ true = (told_characters e c.in_ok-written.written (sym c.in_ok-written.ensures)).0 in
    omega (arith, leb-true (length e) 256 fit)

pub returns : goal.returns
returns c =
    let a = c.args in
    let e = expanded a.text.now in
    let fit : fits e ≡ true = (told_characters e c.in_ok-written.written (sym c.in_ok-written.ensures)).0 in
    record { is = c.in_ok-written.ensures; out = c.write.ensures ∙ ap (λ (b : Bool). laid_if b e a.out.now) (sym fit) }

pub returns-in_err-written : goal.returns-in_err-written
returns-in_err-written c =
    let a = c.args in
    let e = expanded a.text.now in
    let p = err_from_is_err_and c.from_residual.result c.from_residual.ensures.1 in
    let over : fits e ≡ false = (told_over e c.in_err-written.field-0.0 (sym c.in_err-written.ensures)).0 in
    rw (p.1, p.2) (record { is = c.in_err-written.ensures; out = ap (λ (b : Bool). laid_if b e a.out.now) (sym over) })
