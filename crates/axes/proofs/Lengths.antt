-- What is refused for its length: texts that are not three long, and numbers that are not nine. Assumes nothing.
use Prim.Native.Nat.{ℕ}
use mathlib.Core.Path.{◌≡◌, refl}
use mathlib.Core.Bool.{Bool, true, false, ◌&&◌}
use mathlib.Core.List.{List}
use lib.Ieee.{Float}
use lib.ListN.{length}
use borrow.Author.Tests.{eqb-true, ne_eqb}
use Rattle.foundation.specs.Refusals.{refuse}
use Rattle.axes.specs.Matrix.{three_ascii, orientations_of}
use Rattle.axes.specs.Back.{orientation_in}

first_holds : (a b : Bool) → (a && b) ≡ true → a ≡ true
first_holds true b e = refl
first_holds false b e = e

neither_holds : (a : Bool) → (a && false) ≡ false
neither_holds true = refl
neither_holds false = refl

-- A TEXT of three ASCII characters is three long
pub three_long : (text : List ℕ) → three_ascii text ≡ true → length text ≡ 3
unfolding three_ascii
three_long text e = eqb-true (length text) 3 (first_holds _ _ e)

not_three : (text : List ℕ) → (length text ≡ 3 → ⊥) → three_ascii text ≡ false
unfolding three_ascii
not_three text n = simp (ne_eqb (length text) 3 n)

-- REFUSED: texts of which one is not three long
pub orin_not_three : (orin orio : List ℕ) → (length orin ≡ 3 → ⊥) → orientations_of orin orio ≡ refuse 9 0
unfolding orientations_of
orin_not_three orin orio n = simp (not_three orin n)

pub orio_not_three : (orin orio : List ℕ) → (length orio ≡ 3 → ⊥) → orientations_of orin orio ≡ refuse 9 0
unfolding orientations_of
orio_not_three orin orio n = simp (not_three orio n, neither_holds)

-- REFUSED: numbers that are not nine
pub not_nine : (m : List Float) → (length m ≡ 9 → ⊥) → orientation_in m ≡ refuse 10 0
unfolding orientation_in
not_nine m n = simp (ne_eqb (length m) 9 n)
