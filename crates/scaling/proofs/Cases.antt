-- Cases of the scaled quaternion, computed: the ends of 16 bits, and a scale of 0. Assumes nothing.
use mathlib.Core.Path.{◌≡◌, refl}
use lib.IntN.{pos, negsuc}
use lib.Ieee.{nan, inf, binary64, div, of_int}
use mathlib.Core.Bool.{true, false}
use Rattle.scaling.specs.Quaternion.{negated16, scaled_by}

-- -32,768 stays, and its neighbours change their signs
lowest : negated16 (negsuc 32767) ≡ negsuc 32767
unfolding negated16
lowest = refl

next : negated16 (negsuc 32766) ≡ pos 32767
unfolding negated16
next = refl

highest : negated16 (pos 32767) ≡ negsuc 32766
unfolding negated16
highest = refl

zero : negated16 (pos 0) ≡ pos 0
unfolding negated16
zero = refl

-- over 2, x negated
halves : scaled_by (of_int binary64 (pos 2)) (pos 2) (pos 4) (negsuc 5) (pos 0)
    ≡ record { w = of_int binary64 (pos 1); x = of_int binary64 (negsuc 1); y = of_int binary64 (negsuc 2); z = of_int binary64 (pos 0) }
unfolding scaled_by negated16 div of_int
halves = refl

-- over 0: infinities by the sign, and no number for 0
over_nothing : scaled_by (of_int binary64 (pos 0)) (pos 1) (pos 1) (negsuc 0) (pos 0) ≡ record { w = inf false; x = inf true; y = inf true; z = nan }
unfolding scaled_by negated16 div of_int
over_nothing = refl
