-- Numbers as characters: document 01, Cases, 12 (numbers "decimal", a key as "eight small hex digits"). Assumes nothing: these are definitions.
use Rattle.std.specs.Prelude.{ℕ, zero, suc, ◌/◌, ◌%◌, Bool, true, false, List, [], ◌∷◌, ◌++◌, ltb, ℤ, pos, negsuc, get_or}
use Rattle.foundation.specs.Fuel.{fix}
use Rattle.foundation.specs.Text.{characters}
use Rattle.foundation.specs.Digits.{digits}

-- the last digits of a number in a base, as many as are asked
abbrev pub last_digits : ℕ → ℕ → ℕ → List ℕ
last_digits base zero n = []
last_digits base (suc count) n = last_digits base count (n / base) ++ get_or digits (n % base) 0 ∷ []

-- a number below ten is its digit; in any other the digits of its tenth stand before its last
abbrev pub tenth_first : Bool → (ℕ → List ℕ) → ℕ → List ℕ
tenth_first true more n = get_or digits n 0 ∷ []
tenth_first false more n = more (n / 10) ++ get_or digits (n % 10) 0 ∷ []

-- by whether it is below ten
abbrev pub decimal_step : (ℕ → List ℕ) → ℕ → List ℕ
decimal_step more n = tenth_first (ltb n 10) more n

-- a number in decimal
unfoldable pub decimal : ℕ → List ℕ
decimal n = fix (λ k. k) [] decimal_step n

-- a signed number in decimal: a minus before one below zero
unfoldable pub signed_decimal : ℤ → List ℕ
signed_decimal (pos n) = decimal n
signed_decimal (negsuc n) = characters "-" ++ decimal (suc n)
