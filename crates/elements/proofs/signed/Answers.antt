-- `elements::signed` meets its contract. Assumes nothing.
use borrow.Author.Tests.{lt-ltb, le-ltb}
use mathlib.Core.Path.{◌≡◌, refl, sym, ap, ◌∙◌}
use Prim.Native.Nat.{ℕ, zero, suc, ◌+◌, ◌-◌, ◌^◌, ◌<◌}
use native.Mathlib.Nat.{zero-add}
use native.Mathlib.Omega.{arith}
use lib.IntN.{ℤ, pos, negsuc, ◌-ℤ◌}
use mir.Syntax.{w64}
use mir.Val.{to_z, of_z, SFits}
use mir.ValLaws.{to_z_pos, to_z-of_z}
use Rattle.elements.proofs.signed.Goals as goal
use Rattle.elements.proofs.signed.Goals.{Else-n-half}

-- -1 - y
less : (y : ℕ) → negsuc 0 -ℤ pos y ≡ negsuc y
less zero = refl
less (suc y) = ap (λ (k : ℕ). negsuc (suc k)) (zero-add y)

-- what is taken from -1, and its bound
abbrev rest : Else-n-half → ℕ
rest c = c.args.half - 1 - (c.args.n - c.args.half)

below : (c : Else-n-half) → rest c < 2 ^ 63
below c = omega arith

down : (c : Else-n-half) → negsuc 0 -ℤ to_z w64 (rest c) ≡ negsuc (rest c)
down c = ap (λ (z : ℤ). negsuc 0 -ℤ z) (to_z_pos w64 (rest c) (below c)) ∙ less (rest c)

pub overflow_sub-result-else-n-half-3 : goal.overflow_sub-result-else-n-half-3
overflow_sub-result-else-n-half-3 c = rw (down c) (record { sfits = below c })

pub returns-then-n-half : goal.returns-then-n-half
returns-then-n-half c = simp (lt-ltb _ _ c.if-n-half.true, to_z_pos w64 c.args.n (omega arith))

pub returns-else-n-half : goal.returns-else-n-half
returns-else-n-half c =
    let e : rest c ≡ c.args.half + c.args.half - 1 - c.args.n = omega arith in
    let r : SFits w64 (negsuc (rest c)) = record { sfits = below c } in
    ap (λ (z : ℤ). to_z w64 (of_z w64 z)) (down c) ∙ to_z-of_z w64 (negsuc (rest c)) r ∙ ap negsuc e ∙ sym (simp (le-ltb _ _ c.if-n-half.false))
