-- The lines of a take, computed by the definitions. Assumes nothing.
use Prim.Native.Nat.{ℕ}
use Prim.Native.String.{String}
use mathlib.Core.Path.{◌≡◌, refl}
use mathlib.Core.Bool.{true, false}
use mathlib.Core.List.{List, [], ◌∷◌, map, flatten}
use Rattle.foundation.specs.Fuel.{run, fix}
use Rattle.foundation.specs.Text.{characters}
use Rattle.numerals.specs.Numerals.{decimal}
use Rattle.listing_line.specs.Line.{answer_line}
use Rattle.take_lines.specs.Lines.{packet_line, long_packet, totals_line}

abbrev prints : List (List ℕ × String)
prints =
    (flatten (packet_line 1 8 28), "packet 1 at 8 bytes 28\n")
    ∷ (flatten (long_packet false 4 8 65537), "packet 4 at 8 bytes 65537\nrefused 1 at 0\nfront rows 0 headers 0\n")
    ∷ (flatten (long_packet true 4 8 65537), "")
    ∷ (flatten (totals_line 4 1 3), "packets 4 read 1 refused 3\n")
    ∷ []

pub are_printed : map (λ (c : List ℕ × String). c.0) prints ≡ map (λ (c : List ℕ × String). characters c.1) prints
unfolding fix run flatten decimal answer_line
are_printed = refl
