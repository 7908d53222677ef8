-- Going through a text: one character more is one step more, and what has been written stays. Assumes nothing.
use Prim.Native.Nat.{ℕ, ◌+◌, ◌-◌, ◌<◌, ◌≤◌}
use mathlib.Core.Path.{◌≡◌, refl, sym, ap, ◌∙◌}
use mathlib.Core.Bool.{Bool, true, false}
use mathlib.Core.List.{List, [], ◌∷◌, ◌++◌}
use native.Mathlib.Nat.{le_refl, le_trans}
use native.Mathlib.Numerals.{add-one}
use native.Mathlib.Omega.{arith}
use lib.ListN.{length, take, drop, get_or, length-append, take-append-drop}
use lib.Seq.{take-suc, take-length}
use Rattle.custom_type.specs.Expansion.{Expansion, Mark, opens, closes, letter, start, mark_of, step_by, letter_by, copies, step, gone_through, expanded}
use Rattle.custom_type.specs.Number.{number_in}
use Rattle.custom_type.specs.Held.{up_to}

pub gone_append : (x : Expansion) (s t : List ℕ) → gone_through x (s ++ t) ≡ gone_through (gone_through x s) t
unfolding gone_through
gone_append x [] t = refl
gone_append x (c ∷ s) t = gone_append (step x c) s t

-- THE LOOP'S LAW: a character more is a step more
pub one_more : (text : List ℕ) (i : ℕ) → i < length text → up_to text (i + 1) ≡ step (up_to text i) (get_or text i 0)
unfolding gone_through
one_more text i h = rw (add-one, take-suc text i 0 h) (gone_append start (take i text) (get_or text i 0 ∷ []))

-- all of it
pub whole : (text : List ℕ) → (up_to text (length text)).written ≡ expanded text
unfolding expanded
whole text = ap (λ (s : List ℕ). (gone_through start s).written) (take-length text)

-- what has been written stays
step_grows : (x : Expansion) (c : ℕ) → length x.written ≤ length (step x c).written
unfolding step
step_grows x c = go (mark_of c)
  where
    more : (s : List ℕ) → length x.written ≤ length (x.written ++ s)
    more s = omega (arith, length-append x.written s)

    by : (b : Bool) → length x.written ≤ length (letter_by b x c).written
    by true = le_refl (length x.written)
    by false = more (c ∷ [])

    go : (m : Mark) → length x.written ≤ length (step_by m x c).written
    go opens = le_refl (length x.written)
    go closes = more (copies (number_in x.collected - 1) x.written)
    go letter = by x.collecting

gone_grows : (x : Expansion) (s : List ℕ) → length x.written ≤ length (gone_through x s).written
unfolding gone_through
gone_grows x [] = le_refl (length x.written)
gone_grows x (c ∷ s) = le_trans (step_grows x c) (gone_grows (step x c) s)

-- so a part of a text stands for no more characters than the whole
pub grows : (text : List ℕ) (i : ℕ) → length (up_to text i).written ≤ length (expanded text)
unfolding expanded
grows text i =
    let e : gone_through (up_to text i) (drop i text) ≡ gone_through start text =
    sym (gone_append start (take i text) (drop i text)) ∙ ap (gone_through start) (take-append-drop i text) in
    omega (arith, gone_grows (up_to text i) (drop i text), ap (λ (x : Expansion). length x.written) e)
