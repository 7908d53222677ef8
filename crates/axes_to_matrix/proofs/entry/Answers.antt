-- `entry` meets its contract, by the tests that led to each answer. Assumes nothing.
use Prim.Native.Nat.{ℕ}
use mathlib.Core.Path.{◌≡◌, sym, ◌∙◌}
use native.Mathlib.Omega.{arith}
use lib.Dec.{eqb}
use lib.Ieee.{of_bits, neg}
use borrow.Author.Tests.{eq-eqb, ne_eqb}
use Rattle.std.specs.Char.{to_ascii_lowercase, eq_ignore_ascii_case}
use Rattle.std.proofs.lemmas.Bool.Decides.{nat_tests}
use Rattle.axes.specs.Matrix.{small, entry_of}
use Rattle.axes_to_matrix.proofs.entry.Goals as goal

small_is : (c : ℕ) → small c ≡ to_ascii_lowercase c
small_is c = grind (arith, nat_tests)

same_letter : (i o : ℕ) → eqb (small i) (small o) ≡ eq_ignore_ascii_case i o
same_letter i o = simp small_is

pub returns-then-i-o : goal.returns-then-i-o
unfolding entry_of of_bits
returns-then-i-o c = simp (eq-eqb _ _ c.if-i-o.true)

pub returns-then-eq_ignore_ascii_case : goal.returns-then-eq_ignore_ascii_case
unfolding entry_of of_bits neg
returns-then-eq_ignore_ascii_case c =
    simp (ne_eqb _ _ c.if-i-o.false, same_letter c.args.i c.args.o ∙ sym c.eq_ignore_ascii_case.ensures ∙ c.if-eq_ignore_ascii_case.true)

pub returns-else-eq_ignore_ascii_case : goal.returns-else-eq_ignore_ascii_case
unfolding entry_of of_bits
returns-else-eq_ignore_ascii_case c =
    simp (ne_eqb _ _ c.if-i-o.false, same_letter c.args.i c.args.o ∙ sym c.eq_ignore_ascii_case.ensures ∙ c.if-eq_ignore_ascii_case.false)
