-- The first byte of a field is a sign or none: what the number is then. Assumes nothing.
use Prim.Native.Nat.{ℕ, ◌+◌, ◌-◌, ◌^◌, ◌<◌, ◌≤◌}
use mathlib.Core.Path.{◌≡◌}
use mathlib.Core.List.{List}
use native.Mathlib.Nat.{pow-le-pow_right}
use native.Mathlib.Numerals.{add-one}
use native.Mathlib.Omega.{arith}
use borrow.Author.Tests.{eq-eqb, ne_eqb}
use lib.Dec.{lit<}
use lib.ListN.{length, get_or}
use lib.Seq.{slice-cons}
use Rattle.std.specs.Prelude.{Option, Some, None}
use Rattle.dates.specs.Fields.{given, digits, unsigned, year, field}
use Rattle.dates.specs.Bounds.{Below}

module _ (text : List ℕ) (from to : ℕ) (some : from < to) (inside : to ≤ length text) where
  pub plus : get_or text from 0 ≡ 43 → unsigned (field text from to) ≡ digits (field text (from + 1) to)
  unfolding unsigned
  plus h = rw (slice-cons from to text 0 some inside, eq-eqb (get_or text from 0) 43 h, add-one)

  pub no_plus : (get_or text from 0 ≡ 43 → ⊥) → unsigned (field text from to) ≡ digits (field text from to)
  unfolding unsigned
  no_plus h = rw (slice-cons from to text 0 some inside, ne_eqb (get_or text from 0) 43 h)

  pub minus : (r : Option ℕ) → get_or text from 0 ≡ 45 → r ≡ digits (field text (from + 1) to) → year (field text from to) ≡ given None r λ n. Some (2000 - n)
  unfolding year
  minus r h e = rw (slice-cons from to text 0 some inside, eq-eqb (get_or text from 0) 45 h, e, add-one)

  pub no_minus : (r : Option ℕ) → (get_or text from 0 ≡ 45 → ⊥) → r ≡ unsigned (field text from to) → year (field text from to) ≡ given None r λ n. Some (2000 + n)
  unfolding year
  no_minus r h e = rw (e, slice-cons from to text 0 some inside, ne_eqb (get_or text from 0) 45 h)

-- a byte more allows a larger number
pub wider : (k l : ℕ) (r : Option ℕ) → k ≤ l → Below (10 ^ k) r → Below (10 ^ l) r
wider k l (Some n) h below =
    let up : 10 ^ k ≤ 10 ^ l = pow-le-pow_right {n = 10} (lit< tt) h in
    omega arith
wider k l None h below = tt
