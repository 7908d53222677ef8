-- How far a float lies from a fraction, over whole numbers alone: document 01, Matching forms to places ("exact case and bound stated over whole numbers").
-- Assumes nothing: these are definitions.
use Rattle.std.specs.Prelude.{ℕ, ◌*◌, ◌≤◌, ◌≡◌, Bool, true, false, not, ℤ, pos, neg_ℤ, nat_abs, ◌-ℤ◌, ◌*ℤ◌, Float}
use Rattle.std.specs.Int.Signed.{non_neg}
use Rattle.std.specs.Float.{nan, inf, fin, Format}
use Rattle.std.specs.Float.Ieee.{up, down, round}
use Rattle.fixed.specs.declared.Exact.{Exact}

-- ---- fractions of two whole numbers

-- two fractions are one number: multiplied out they are equal
abbrev pub Same : Exact → Exact → Type 0
Same a b = a.numerator *ℤ pos b.denominator ≡ b.numerator *ℤ pos a.denominator

-- two fractions are at most p / q apart: multiplied out, so is their difference
abbrev pub Apart : Exact → Exact → ℕ → ℕ → Type 0
Apart a b p q = nat_abs (a.numerator *ℤ pos b.denominator -ℤ b.numerator *ℤ pos a.denominator) * q ≤ p * (a.denominator * b.denominator)

-- ---- floats: a finite one is m × 2 ^ e with its sign, and 2 ^ e is the fraction up e / down e (lib.Ieee)

-- a number with its sign
abbrev pub signed : Bool → ℕ → ℤ
signed false n = pos n
signed true n = neg_ℤ (pos n)

-- a finite float as a fraction
abbrev pub value : Bool → ℕ → ℤ → Exact
value s m e = record { numerator = signed s (m * up e); denominator = down e }

-- a float is finite, and it is the number a
abbrev pub Equals : Float → Exact → Type 0
Equals nan a = ⊥
Equals (inf s) a = ⊥
Equals (fin s m e) a = Same (value s m e) a

-- a float is finite, and it lies within p / q of the number a
abbrev pub Within : Float → Exact → ℕ → ℕ → Type 0
Within nan a p q = ⊥
Within (inf s) a p q = ⊥
Within (fin s m e) a p q = Apart (value s m e) a p q

-- the float of a format that the number a rounds to
abbrev pub rounded : Format → Exact → Float
rounded f a = round f (not (non_neg a.numerator)) (nat_abs a.numerator) a.denominator
