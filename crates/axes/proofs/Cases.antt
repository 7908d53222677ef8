-- What the definitions come to at their limits, computed; document 01's own case 10 stands in `theorems`. Assumes nothing.
use Prim.Native.Nat.{ℕ}
use Prim.Native.Char.{code}
use mathlib.Core.Path.{◌≡◌, refl}
use mathlib.Core.Bool.{true, false}
use mathlib.Core.List.{[], ◌∷◌}
use lib.IntN.{negsuc}
use lib.Ieee.{Float, nan, inf, fin, lt}
use Rattle.foundation.specs.Text.{characters}
use Rattle.axes.specs.declared.Axes.{Axes}
use Rattle.foundation.specs.Refusals.{refuse}
use Rattle.std.specs.Prelude.{Ok, Some}
use Rattle.axes.specs.Matrix.{one, minus_one, nought, entry_of, three_ascii, orientations_of}
use Rattle.axes.specs.Back.{half, minus_half, beyond, lettered, orientation_of, orientation_in}
use Rattle.axes.specs.ReadBack.{standing_in}

abbrev axes : ℕ → ℕ → ℕ → Axes
axes a b c = record { first = a; second = b; third = c }

abbrev YxZ : Axes
YxZ = axes (code "Y") (code "x") (code "Z")

abbrev XYZ : Axes
XYZ = axes (code "X") (code "Y") (code "Z")

abbrev yXZ : Axes
yXZ = axes (code "y") (code "X") (code "Z")

-- the rule that reading back follows says of ORIN YxZ and ORIO XYZ what case 10 does: yXZ
pub rule_10 : standing_in YxZ XYZ ≡ yXZ
rule_10 = refl

-- ---- texts that name no axes

pub refused_texts : (orientations_of (characters "XY") (characters "XYZ") ≡ refuse 9 0)
    × (orientations_of (characters "XYZ") (characters "XYZX") ≡ refuse 9 0)
    × (orientations_of (characters "XYZ") (88 ∷ 89 ∷ 128 ∷ []) ≡ refuse 9 0)
    × (orientations_of (127 ∷ 0 ∷ 32 ∷ []) (characters "@`1") ≡ Ok (record { orin = axes 127 0 32; orio = axes 64 96 49 }))
unfolding orientations_of three_ascii
refused_texts = (refl, refl, refl, refl)

-- only letters have another case: @ and ` stand as far apart as A and a
pub cases_of_letters : (entry_of (code "A") (code "a") ≡ minus_one) × (entry_of (code "z") (code "Z") ≡ minus_one) × (entry_of (code "@") (code "`") ≡ nought)
    × (entry_of (code "[") (code "{") ≡ nought)
unfolding entry_of
cases_of_letters = (refl, refl, refl, refl)

-- ---- columns at the limit

-- a little more than a half: 4194305 / 2^23
abbrev more : Float
more = fin false 4194305 (negsuc 22)

-- 0.5 in size is not beyond it, and a NaN is not; an infinity is
pub limits : (beyond half 1 2 (Some 3) ≡ Some 3) × (beyond minus_half 1 2 (Some 3) ≡ Some 3) × (beyond nan 1 2 (Some 3) ≡ Some 3) × (beyond more 1 2 (Some 3) ≡ Some 1)
    × (beyond (inf false) 1 2 (Some 3) ≡ Some 1) × (beyond (inf true) 1 2 (Some 3) ≡ Some 2)
unfolding beyond lt
limits = (refl, refl, refl, refl, refl, refl)

-- the first such column names the axis, and a row with none is refused, and so are eight numbers and ten
pub refused_matrices : (orientation_of ((nan ∷ minus_one ∷ one ∷ []) ∷ (one ∷ one ∷ one ∷ []) ∷ (half ∷ half ∷ minus_one ∷ []) ∷ []) ≡ Ok (axes (code "y") (code "X") (code "z")))
    × (orientation_of ((one ∷ one ∷ one ∷ []) ∷ (half ∷ nan ∷ minus_half ∷ []) ∷ (one ∷ one ∷ one ∷ []) ∷ []) ≡ refuse 10 0)
    × (orientation_in (one ∷ one ∷ one ∷ one ∷ one ∷ one ∷ one ∷ one ∷ []) ≡ refuse 10 0)
    × (orientation_in (one ∷ one ∷ one ∷ one ∷ one ∷ one ∷ one ∷ one ∷ one ∷ one ∷ []) ≡ refuse 10 0)
unfolding orientation_in beyond lettered lt
refused_matrices = (refl, refl, refl, refl)
