-- What is laid in front of a lent list, and a run more behind it. Assumes nothing.
use Prim.Native.Nat.{ℕ, ◌+◌, ◌≤◌}
use mathlib.Core.Path.{◌≡◌, sym, ap, ◌∙◌}
use mathlib.Core.List.{List, ◌++◌, append_assoc}
use native.Mathlib.Omega.{arith}
use lib.ListN.{length, take, drop, replicate, length-drop}
use lib.Seq.{take_at, drop_at, drop-drop, length-take-le}
use Rattle.custom_type.specs.declared.step.Turn.{Turn}
use Rattle.custom_type.specs.Expansion.{Expansion}
use Rattle.custom_type.specs.Held.{Follows}

run_more : (w run a : List ℕ) (n m : ℕ) → length w ≡ n
    → take n (w ++ drop n a) ++ (run ++ drop m (drop n (w ++ drop n a))) ≡ (w ++ run) ++ drop (n + m) a
run_more w run a n m h =
    rw (take_at w (drop n a) n h, drop_at w (drop n a) n h, drop-drop m n a) (sym (append_assoc w run (drop (n + m) a)))

-- the part from n on, of k places, filled with the character of a turn
pub filled : (x y : Expansion) (t : Turn) (a out run : List ℕ) (n k : ℕ) → Follows x y t → n ≡ length x.written → k ≡ t.times → n + k ≤ length out
    → out ≡ x.written ++ drop n a → run ≡ replicate (length (take k (drop n out))) t.character
    → take n out ++ (run ++ drop k (drop n out)) ≡ y.written ++ drop (n + t.times) a
filled x y t a out run n k f hn hk le ho hr =
    let room : k ≤ length (drop n out) = omega (arith, length-drop n out) in
    let times : length (take k (drop n out)) ≡ t.times = length-take-le k (drop n out) room ∙ hk in
    let wrote : x.written ++ run ≡ y.written = ap (λ (r : List ℕ). x.written ++ r) (hr ∙ ap (λ (m : ℕ). replicate m t.character) times) ∙ sym f.wrote in
    ap (λ (o : List ℕ). take n o ++ (run ++ drop k (drop n o))) ho
    ∙ run_more x.written run a n k (sym hn)
    ∙ ap (λ (w : List ℕ). w ++ drop (n + k) a) wrote
    ∙ ap (λ (m : ℕ). y.written ++ drop (n + m) a) hk
