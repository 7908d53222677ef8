-- What reading a matrix back gives, said without the matrix, for ORIN and ORIO that are signed orders of X, Y and Z. Document 01, Cases, 10: "ORIN YxZ,
-- ORIO XYZ: 0 -1 0 / 1 0 0 / 0 0 1, back yXZ." Assumes nothing: these are definitions.
use Rattle.std.specs.Prelude.{ℕ, Bool, cond, eqb}
use Prim.Native.Char.{code}
use mathlib.Core.List.{List, [], ◌∷◌, ◌++◌, map, flat_map}
use Rattle.axes.specs.Matrix.{small}
use Rattle.axes.specs.declared.Axes.{Axes}

-- ---- signed orders

-- an axis either way: a capital or a small letter
abbrev pub either_way : ℕ → List ℕ
either_way letter = letter ∷ small letter ∷ []

-- three axes in this order, each either way
abbrev pub signed : ℕ → ℕ → ℕ → List Axes
signed a b c = flat_map (λ (x : ℕ). flat_map (λ (y : ℕ). map (λ (z : ℕ). record { first = x; second = y; third = z }) (either_way c)) (either_way b)) (either_way a)

-- in all six orders
abbrev pub in_all_orders : ℕ → ℕ → ℕ → List Axes
in_all_orders x y z = signed x y z ++ signed x z y ++ signed y x z ++ signed y z x ++ signed z x y ++ signed z y x

-- THE SIGNED ORDERS of X, Y and Z: six orders, eight signs
abbrev pub signed_orders : List Axes
signed_orders = in_all_orders (code "X") (code "Y") (code "Z")

-- ---- read back

-- whether two characters are one letter, in whatever case
abbrev pub one_letter : ℕ → ℕ → Bool
one_letter a b = eqb (small a) (small b)

-- the letter of a column, small where an ORIN letter and an ORIO letter differ in case
abbrev pub signed_by : ℕ → ℕ → ℕ → ℕ
signed_by i o letter = cond (eqb i o) letter (small letter)

-- THE AXIS of an ORIO letter: X, Y or Z as that letter stands first, second or third in ORIN
abbrev pub standing : Axes → ℕ → ℕ
standing orin o =
    cond (one_letter orin.first o) (signed_by orin.first o (code "X"))
    (cond (one_letter orin.second o) (signed_by orin.second o (code "Y")) (signed_by orin.third o (code "Z")))

-- of each ORIO letter
abbrev pub standing_in : Axes → Axes → Axes
standing_in orin orio = record { first = standing orin orio.first; second = standing orin orio.second; third = standing orin orio.third }
