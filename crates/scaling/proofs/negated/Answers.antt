-- `negated` meets its contract: the bits of a negation are what is left up to 2^16. Assumes nothing.
use Prim.Native.Nat.{zero, suc, ◌-◌, ◌%◌}
use mathlib.Core.Path.{◌≡◌, refl, ap, ◌∙◌}
use native.Mathlib.Omega.{arith}
use lib.IntN.{ℤ, pos, negsuc, neg_ℤ}
use mir.Syntax.{w16}
use borrow.Author.Rules.{rules}
use mir.Val.{to_z, of_z, SFits}
use mir.ValLaws.{to_z-of_z}
use Rattle.std.specs.Int.{int_wrapping_neg}
use Rattle.scaling.specs.Quaternion.{negated16}
use Rattle.scaling.proofs.negated.Goals as goal

left : (z : ℤ) → SFits w16 z → (65536 - of_z w16 z) % 65536 ≡ of_z w16 (neg_ℤ z)
left (pos zero) f = refl
left (pos (suc k)) f = omega (arith, f.sfits)
left (negsuc k) f = omega (arith, f.sfits)

pub returns : goal.returns
unfolding negated16
returns c =
    let x = c.args.x in
    to_z-of_z w16 _ (search rules) ∙ c.wrapping_neg.ensures ∙ ap (int_wrapping_neg w16) (to_z-of_z w16 x c.ranges.x) ∙ ap (to_z w16) (left x c.ranges.x)
