-- The bytes that are held after a read: those that were kept, and what was read behind them, where there is room. So the window that `next_step` is
-- asked of next is the one of the law (`Taking`). Assumes nothing.
use Rattle.std.proofs.Common.{◌≡◌, ℕ, ◌+◌, ◌≤◌, true, List, ◌++◌, length, take, drop, sym, refl, ap, ◌∙◌, arith, length-append, length-drop, length-take, le-leb}
use lib.Seq.{take-append_seam}
use Rattle.text.specs.Lay.{fits, laid, behind, Lays}
use Rattle.window.specs.Steps.{kept_of, Keeps}

pub held_next : {bytes : List ℕ} {count from kept : ℕ} {moved read : List ℕ} {held : ℕ} {after : List ℕ} → Keeps bytes count from kept moved → Lays read moved kept held after
    → kept + length read ≤ length bytes → take held after ≡ kept_of bytes count from ++ read
unfolding laid behind
held_next {bytes} {count} {from} {kept} {moved} {read} {held} {after} k l room =
    let front = kept_of bytes count from in
    let rest = drop (kept + length read) moved in
    let size : length front ≤ length bytes = simp (length-drop, length-take) (omega arith) in
    let same : length moved ≡ length bytes = ap length k.leaves ∙ simp (length-append, length-drop, length-take) (omega arith) in
    let fit : fits moved kept read ≡ true = le-leb (kept + length read) (length moved) (omega arith) in
    let place : held ≡ length front + length read = l.is ∙ rw fit (ap (λ n. n + length read) k.is) in
    let whole : after ≡ take kept moved ++ read ++ rest = l.leaves ∙ rw fit refl in
    let kept_first : take kept moved ≡ front = (λ i. take (k.is i) (k.leaves i)) ∙ take-append_seam front (drop (length front) bytes) in
    (λ i. take (place i) (whole i)) ∙ ap (λ (f : List ℕ). take (length front + length read) (f ++ read ++ rest)) kept_first
    ∙ ap (λ n. take n (front ++ read ++ rest)) (sym (length-append front read))
    ∙ take-append_seam (front ++ read) rest
