-- A signed number is held by the width that its first bit is of, and comes through a store and a cast unchanged, once for every width. Assumes nothing.
use Prim.Native.Nat.{ℕ, ◌+◌, ◌-◌, ◌^◌, ◌<◌, ◌≤◌}
use mathlib.Core.Path.{◌≡◌, refl, sym, ap, ◌∙◌, subst}
use mathlib.Core.Bool.{Bool, true, false, cond}
use native.Mathlib.Omega.{arith}
use borrow.Author.Tests.{ltb-true, ltb-false}
use lib.Dec.{ltb}
use lib.IntN.{ℤ, pos, negsuc}
use lib.Signed.{mag}
use mir.Syntax.{Width, w64}
use mir.Val.{hbits, SFits, of_z, to_z}
use mir.ValLaws.{to_z-of_z}
use Rattle.elements.specs.Element.{signed_of}

pub signed_below : (half n : ℕ) → n < half + half → mag (signed_of half n) < half
signed_below half n h = go (ltb n half) refl
  where
    go : (b : Bool) → ltb n half ≡ b → mag (cond b (pos n) (negsuc (half + half - 1 - n))) < half
    go true e = ltb-true n half e
    go false e = let l : half ≤ n = ltb-false n half e in omega arith

module _ (w : Width) (n : ℕ) (h : n < 2 ^ hbits w + 2 ^ hbits w) (z : ℤ) (e : z ≡ signed_of (2 ^ hbits w) n) where
  pub fits : SFits w z
  fits = record { sfits = subst (λ (x : ℤ). mag x < 2 ^ hbits w) (sym e) (signed_below (2 ^ hbits w) n h) }

  module _ (wide : SFits w64 z) where
    -- what an i64 holds is cast to the width
    pub cast_fits : SFits w (to_z w64 (of_z w64 z))
    cast_fits = subst (SFits w) (sym (to_z-of_z w64 z wide)) fits

    pub through : to_z w (of_z w (to_z w64 (of_z w64 z))) ≡ signed_of (2 ^ hbits w) n
    through = ap (λ (x : ℤ). to_z w (of_z w x)) (to_z-of_z w64 z wide) ∙ to_z-of_z w z fits ∙ e
