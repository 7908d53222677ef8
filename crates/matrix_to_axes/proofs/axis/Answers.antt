-- `axis` meets its contract: what each column decides is told to the one before it. Assumes nothing.
use Prim.Native.Nat.{ℕ}
use Prim.Native.Char.{code}
use mathlib.Core.Path.{◌≡◌, refl, sym, ap, ◌∙◌}
use mathlib.Core.List.{List}
use borrow.Author.Tests.{ne_eqb}
use lib.Ieee.{Float, nan}
use lib.ListN.{get_or}
use Rattle.std.specs.Prelude.{Some, None}
use Rattle.axes.specs.Back.{beyond, axis_of}
use Rattle.matrix_to_axes.specs.Letters.{told}
use Rattle.matrix_to_axes.proofs.axis.Goals as goal

nothing_told : told 0 ≡ None
unfolding told
nothing_told = refl

letter_told : (n : ℕ) → (n ≡ 0 → ⊥) → told n ≡ Some n
unfolding told
letter_told n some = simp (ne_eqb n 0 some)

-- the last column, the one before it and the first
of_row : (row : List Float) (z y x : ℕ)
    → told z ≡ beyond (get_or row 2 nan) (code "Z") (code "z") (told 0)
    → told y ≡ beyond (get_or row 1 nan) (code "Y") (code "y") (told z)
    → told x ≡ beyond (get_or row 0 nan) (code "X") (code "x") (told y)
    → told x ≡ axis_of row
of_row row z y x last middle first =
    first
    ∙ ap (beyond (get_or row 0 nan) (code "X") (code "x")) (
    middle ∙ ap (beyond (get_or row 1 nan) (code "Y") (code "y")) (last ∙ ap (beyond (get_or row 2 nan) (code "Z") (code "z")) nothing_told))

pub returns-then-letter-eq0 : goal.returns-then-letter-eq0
returns-then-letter-eq0 c =
    sym (ap told c.if-letter-eq0.true ∙ nothing_told) ∙ of_row c.args.row _ _ _ c.beyond_half.ensures c.beyond_half-2.ensures c.beyond_half-letter.ensures

pub returns-else-letter-eq0 : goal.returns-else-letter-eq0
returns-else-letter-eq0 c =
    sym (letter_told _ c.if-letter-eq0.false) ∙ of_row c.args.row _ _ _ c.beyond_half.ensures c.beyond_half-2.ensures c.beyond_half-letter.ensures
