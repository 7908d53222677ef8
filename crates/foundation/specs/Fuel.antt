-- A function defined by a bound on the depth of its calls (fuel), and its equation, proved once for every such function.
-- `fix step x` answers `step (fix step) x` wherever `step` asks only at states of a smaller measure. Assumes nothing.
use Prim.Native.Nat.{ℕ, zero, suc, ◌<◌}
use Rattle.std.specs.Prelude.{◌≡◌}
use Rattle.std.proofs.Common.{not-suc-le-zero, arith}

module _ {X R : Type 0} (μ : X → ℕ) (stop : R) (step : (X → R) → X → R) where
  -- at most n calls deep; `stop` is never reached where n is above the measure
  unfoldable pub run : ℕ → X → R
  run zero x = stop
  run (suc n) x = step (run n) x

  -- as many calls deep as the measure asks
  unfoldable pub fix : X → R
  fix x = run (suc (μ x)) x

  -- what `step` may do: ask at states of a smaller measure only
  abbrev pub Falls : Type 0
  Falls = (f g : X → R) (x : X) → ((y : X) → μ y < μ x → f y ≡ g y) → step f x ≡ step g x

module _ {X R : Type 0} (μ : X → ℕ) (stop : R) (step : (X → R) → X → R) (falls : Falls μ stop step) where
  -- more fuel than the measure changes nothing
  pub enough : (n m : ℕ) (x : X) → μ x < n → μ x < m → run μ stop step n x ≡ run μ stop step m x
  unfolding run
  enough zero m x h k = absurd (not-suc-le-zero h)
  enough (suc n) zero x h k = absurd (not-suc-le-zero k)
  enough (suc n) (suc m) x h k = falls (run μ stop step n) (run μ stop step m) x (λ y l. enough n m y (omega arith) (omega arith))

  -- THE EQUATION of a function defined by fuel
  pub fix_eq : (x : X) → fix μ stop step x ≡ step (fix μ stop step) x
  unfolding fix run
  fix_eq x = falls (run μ stop step (μ x)) (fix μ stop step) x (λ y l. enough (μ x) (suc (μ y)) y l (omega arith))
