-- `is_three_ascii` meets its contract: three bytes are ASCII, or one of them is not. Assumes nothing.
use Prim.Native.Nat.{ℕ, zero, suc, ◌≤◌}
use mathlib.Core.Path.{◌≡◌, sym}
use mathlib.Core.Bool.{Bool, true, false, ◌&&◌}
use mathlib.Core.List.{List, [], ◌∷◌}
use native.Mathlib.Omega.{arith}
use lib.Dec.{ltb}
use lib.ListN.{length, get_or}
use borrow.Author.Tests.{ne_eqb, lt-ltb}
use Rattle.std.specs.Bool.{MatchBool}
use Rattle.std.specs.Str.{IsAscii, IsNotAscii}
use Rattle.std.proofs.lemmas.Bool.Decides.{nat_tests}
use Rattle.axes.specs.Matrix.{three_ascii}
use Rattle.axes_to_matrix.proofs.is_three_ascii.Goals as goal

one_is_not : (a b c i : ℕ) → 128 ≤ get_or (a ∷ b ∷ c ∷ []) i 0 → false ≡ (ltb a 128 && ltb b 128 && ltb c 128)
one_is_not a b c zero h = grind (arith, nat_tests)
one_is_not a b c (suc zero) h = grind (arith, nat_tests)
one_is_not a b c (suc (suc zero)) h = grind (arith, nat_tests)
one_is_not a b c (suc (suc (suc i))) h = absurd (omega arith)

three : (text : List ℕ) (b : Bool) → length text ≡ 3 → MatchBool b (IsAscii text) (IsNotAscii text) → b ≡ three_ascii text
unfolding three_ascii
three [] b e h = absurd (omega arith)
three (x ∷ []) b e h = absurd (omega arith)
three (x ∷ y ∷ []) b e h = absurd (omega arith)
three (x ∷ y ∷ z ∷ w ∷ rest) b e h = absurd (omega arith)
three (x ∷ y ∷ z ∷ []) true e h = sym (simp (lt-ltb _ _ (h 0), lt-ltb _ _ (h 1), lt-ltb _ _ (h 2)))
three (x ∷ y ∷ z ∷ []) false e (i, h) = one_is_not x y z i h

pub returns-then-text-eq3 : goal.returns-then-text-eq3
returns-then-text-eq3 c = three _ _ c.if-text-eq3.true c.is_ascii.ensures.cases

pub returns-else-text-eq3 : goal.returns-else-text-eq3
unfolding three_ascii
returns-else-text-eq3 c = simp (ne_eqb _ _ c.if-text-eq3.false)
