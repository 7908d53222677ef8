-- A field that is not read leaves the whole unread, whatever stands before it. Assumes nothing.
use mathlib.Core.Path.{◌≡◌, refl}
use Rattle.std.specs.Prelude.{ℕ, Option, Some, None}
use Rattle.dates.specs.Fields.{given}

pub later : {R : Type 0} (other : R) (r : Option ℕ) → given other r (λ n. other) ≡ other
later other (Some n) = refl
later other None = refl
