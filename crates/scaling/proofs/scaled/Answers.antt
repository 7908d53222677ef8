-- `scaled` meets its contract: each number comes out of its 16 bits as it went in. Assumes nothing.
use mathlib.Core.Path.{◌≡◌, ap, ◌∙◌}
use lib.IntN.{ℤ}
use lib.Ieee.{Float}
use mir.Syntax.{w16}
use mir.ValLaws.{to_z-of_z}
use borrow.Author.Rules.{rules}
use Rattle.scaling.specs.Quaternion.{negated16, over, scaled_by}
use Rattle.scaling.specs.declared.Quaternion.{Quaternion}
use Rattle.scaling.proofs.scaled.Goals as goal

-- a quaternion by its four numbers
by : (s : Float) {w w' x x' y y' z z' : ℤ} → w ≡ w' → x ≡ x' → y ≡ y' → z ≡ z'
    → ◌≡◌ {A = Quaternion} (record { w = over s w; x = over s x; y = over s y; z = over s z }) (record { w = over s w'; x = over s x'; y = over s y'; z = over s z' })
by s ew ex ey ez = λ i. record { w = over s (ew i); x = over s (ex i); y = over s (ey i); z = over s (ez i) }

pub returns : goal.returns
unfolding scaled_by
returns c =
    let a = c.args in
    let fits = c.ranges in
    by a.scale (to_z-of_z w16 a.w fits.w)
    (to_z-of_z w16 _ (search rules) ∙ c.negated.ensures ∙ ap negated16 (to_z-of_z w16 a.x fits.x))
    (to_z-of_z w16 a.y fits.y) (to_z-of_z w16 a.z fits.z)
