-- `is_utf8_rest` meets its contract: the part up to the first zero is what is kept. Assumes nothing.
use Prim.Native.Nat.{ℕ}
use mathlib.Core.Path.{sym, ap, ◌∙◌}
use lib.ListN.{take}
use lib.Seq.{length-take-le}
use native.Mathlib.Omega.{arith}
use Rattle.texts.specs.Utf8.{well_formed}
use Rattle.texts.proofs.Kept.{up_to_zero_front, up_to_zero_length}
use Rattle.utf8.proofs.is_utf8_rest.Goals as goal

pub slice_bounds-is_utf8_by_bytes-end : goal.slice_bounds-is_utf8_by_bytes-end
slice_bounds-is_utf8_by_bytes-end c =
    let s = c.args.text.now in
    let fits = up_to_zero_length s in
    sym (length-take-le c.utf8_len-end.result s (omega (arith, c.utf8_len-end.ensures)))

pub returns-then-end-eq0 : goal.returns-then-end-eq0
unfolding well_formed
returns-then-end-eq0 c =
    let s = c.args.text.now in
    ap well_formed (ap (λ (n : ℕ). take n s) (sym c.if-end-eq0.true ∙ c.utf8_len-end.ensures) ∙ up_to_zero_front s)

pub returns : goal.returns
returns c =
    let s = c.args.text.now in
    let part = ap (λ (n : ℕ). take n s) c.utf8_len-end.ensures ∙ up_to_zero_front s in
    c.is_utf8_by_bytes.ensures ∙ ap well_formed part
