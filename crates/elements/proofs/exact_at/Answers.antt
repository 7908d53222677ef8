-- `exact_at` meets its contract: the bytes are all there, or they are not. Assumes nothing.
use Prim.Native.Nat.{ℕ, ◌+◌, ◌-◌, ◌<◌, ◌≤◌}
use mathlib.Core.Path.{◌≡◌, sym, ap, ◌∙◌}
use mathlib.Core.List.{List}
use native.Mathlib.Omega.{arith}
use borrow.Author.Tests.{le-leb, lt-leb}
use lib.ListN.{length, take, drop}
use Rattle.foundation.specs.BigEndian.{big_endian}
use Rattle.foundation.proofs.BigEndian.{read_whole}
use Rattle.elements.specs.Element.{exact_of, exact_at}
use Rattle.elements.proofs.exact_at.Goals as goal

module _ (s : List ℕ) (at : ℕ) where
  -- not all there
  missing : length s < at + 8 → exact_of 0 ≡ exact_at s at
  unfolding exact_at
  missing h = simp (lt-leb (at + 8) (length s) h)

  -- all there, and read off the bytes from `at` on
  present : at + 8 ≤ length s → (n : ℕ) → n ≡ big_endian (take 8 (take (at + 8 - at) (drop at s))) → exact_of n ≡ exact_at s at
  unfolding exact_at
  present h n e =
      let eight : at + 8 - at ≡ 8 = omega arith in
      let is : n ≡ big_endian (take 8 (drop at s)) = e ∙ ap (λ (k : ℕ). big_endian (take 8 (take k (drop at s)))) eight ∙ ap big_endian (read_whole 8 (drop at s) (omega arith)) in
      ap exact_of is ∙ sym (simp (le-leb (at + 8) (length s) h))

pub returns-then-s-lt8 : goal.returns-then-s-lt8
returns-then-s-lt8 c = let a = c.args in c.fixed_exact.ensures ∙ missing a.s.now a.at (omega arith)

pub returns : goal.returns
returns c =
    let a = c.args in
    c.fixed_exact-2.ensures ∙ present a.s.now a.at (omega arith) c.big_endian.result c.big_endian.ensures
