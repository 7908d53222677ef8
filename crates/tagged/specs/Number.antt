-- What callers of this crate say of a number that they read: which whole number it is, and how many bits hold it. Assumes nothing: these are
-- definitions.
use Rattle.std.specs.Prelude.{ℕ, ◌^◌, ◌<◌, ℤ, pos, Result, Ok, Err}
use Rattle.std.specs.Int.{w16}
use Rattle.std.proofs.Common.{SFits}
use Rattle.elements.specs.declared.Element.{Element}
use Rattle.elements.specs.declared.Element.TheVariants.{Signed, Unsigned, Single, Double}
use Rattle.foundation.specs.declared.refusal.Refusal.{Refusal}

-- the number of a signed letter, and 0 for any other element
abbrev pub signed_number : Element → ℤ
signed_number (Signed z) = z
signed_number (Unsigned n) = pos 0
signed_number (Single x) = pos 0
signed_number (Double x) = pos 0

-- the number of an unsigned letter, and 0 for any other element
abbrev pub unsigned_number : Element → ℕ
unsigned_number (Signed z) = 0
unsigned_number (Unsigned n) = n
unsigned_number (Single x) = 0
unsigned_number (Double x) = 0

-- 16 bits hold it, as they do an `s`
abbrev pub Sixteen : Element → Type 0
Sixteen (Signed z) = SFits w16 z
Sixteen (Unsigned n) = Unit {0}
Sixteen (Single x) = Unit {0}
Sixteen (Double x) = Unit {0}

-- 32 bits hold it, as they do an `L`
abbrev pub ThirtyTwo : Element → Type 0
ThirtyTwo (Signed z) = Unit {0}
ThirtyTwo (Unsigned n) = n < 2 ^ 32
ThirtyTwo (Single x) = Unit {0}
ThirtyTwo (Double x) = Unit {0}

-- what holds of the element, where one was read
abbrev pub Held : (Element → Type 0) → Result Element Refusal → Type 0
Held Q (Ok e) = Q e
Held Q (Err r) = Unit {0}
