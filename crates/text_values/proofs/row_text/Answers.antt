-- `row_text` meets its contract: its room up to the first zero. Assumes nothing.
use Prim.Native.Nat.{ℕ}
use mathlib.Core.Path.{sym, ap, ◌∙◌}
use native.Mathlib.Omega.{arith}
use lib.ListN.{take}
use lib.Seq.{length-take-le}
use Rattle.texts.specs.Kept.{up_to_zero}
use Rattle.texts.proofs.Kept.{up_to_zero_front, up_to_zero_length}
use Rattle.text_values.proofs.row_text.Goals as goal

pub slice_bounds-result-end : goal.slice_bounds-result-end
slice_bounds-result-end c =
    let room = c.room_of-room.result.now in
    let n = c.utf8_len-kept.ensures in
    sym (length-take-le c.utf8_len-kept.result room (omega (arith, n, up_to_zero_length room)))

pub returns : goal.returns
returns c =
    let room = c.room_of-room.result.now in
    ap (λ (n : ℕ). take n room) c.utf8_len-kept.ensures ∙ up_to_zero_front room ∙ ap up_to_zero c.room_of-room.ensures
