-- What holds in the loops over a text: its first i characters are gone through, and stand for n characters. Assumes nothing.
use Prim.Native.Nat.{ℕ, ◌+◌, ◌≤◌, ◌<◌}
use mathlib.Core.Path.{◌≡◌, refl, sym, ap, subst, ◌∙◌}
use mathlib.Core.List.{List}
use native.Mathlib.Omega.{arith}
use lib.ListN.{length, get_or, length-append, length-replicate, replicate}
use Rattle.custom_type.specs.declared.step.Held.{Held}
use Rattle.custom_type.specs.declared.step.Turn.{Turn}
use Rattle.custom_type.specs.Expansion.{Expansion, start, step, gone_through, expanded}
use Rattle.custom_type.specs.Held.{held_of, Follows, Turned, up_to}
use Rattle.custom_type.proofs.Through.{one_more, grows, whole}

pub record Gone (text : List ℕ) (i : ℕ) (h : Held) (n : ℕ) : Type 0 where
  pub within : i ≤ length text
  pub held : h ≡ held_of (up_to text i)
  pub long : n ≡ length (up_to text i).written

pub gone_none : (text : List ℕ) (h : Held) → h ≡ held_of start → Gone text 0 h 0
unfolding gone_through
gone_none text h e = record { within = omega arith; held = e; long = refl }

module _ (text : List ℕ) (i : ℕ) (h : Held) (n : ℕ) (g : Gone text i h n) where
  pub gone_within : n ≤ length (expanded text)
  gone_within = omega (arith, grows text i, g.long)

  pub gone_all : length text ≤ i → (up_to text i).written ≡ expanded text
  gone_all l =
      let all : i ≡ length text = omega (arith, g.within) in
      ap (λ (k : ℕ). (up_to text k).written) all ∙ whole text

  module _ (t : Turn) (l : i < length text) (f : Turned h (λ x. step x (get_or text i 0)) t) where
    pub follows : Follows (up_to text i) (up_to text (i + 1)) t
    follows = subst (λ (y : Expansion). Follows (up_to text i) y t) (sym (one_more text i l)) (f (up_to text i) g.held)

    -- A TURN
    pub gone_more : Gone text (i + 1) t.held (n + t.times)
    gone_more =
        let run = replicate t.times t.character in
        let more : length (up_to text (i + 1)).written ≡ length (up_to text i).written + t.times =
        ap length follows.wrote ∙ length-append (up_to text i).written run ∙ ap (λ (k : ℕ). length (up_to text i).written + k) (length-replicate t.times t.character) in
        record { within = omega arith; held = follows.held; long = omega (arith, g.long) }
