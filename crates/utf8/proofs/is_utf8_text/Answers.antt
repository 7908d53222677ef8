-- `is_utf8_text` meets its contract: the part up to the first zero is what is kept. Assumes nothing.
use Prim.Native.Nat.{ℕ}
use mathlib.Core.Path.{sym, ap, ◌∙◌}
use lib.ListN.{take}
use lib.Seq.{length-take-le}
use native.Mathlib.Omega.{arith}
use Rattle.texts.specs.Utf8.{well_formed}
use Rattle.texts.proofs.Kept.{up_to_zero_front, up_to_zero_length}
use Rattle.utf8.proofs.is_utf8_text.Goals as goal

pub slice_bounds-is_utf8-end : goal.slice_bounds-is_utf8-end
slice_bounds-is_utf8-end c =
    let s = c.args.text.now in
    let fits = up_to_zero_length s in
    sym (length-take-le c.utf8_len-end.result s (omega (arith, c.utf8_len-end.ensures)))

pub returns : goal.returns
returns c =
    let s = c.args.text.now in
    let part = ap (λ (n : ℕ). take n s) c.utf8_len-end.ensures ∙ up_to_zero_front s in
    c.is_utf8.ensures ∙ ap well_formed part
