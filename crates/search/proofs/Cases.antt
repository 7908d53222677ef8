-- Bytes searched by the definition. Assumes nothing.
use mathlib.Core.Path.{◌≡◌, refl}
use Rattle.foundation.specs.Text.{characters}
use Rattle.std.specs.Prelude.{Some, None}
use Rattle.search.specs.Search.{begins, first_in, find_from}

-- the search at its limits: at the place itself, behind it, at the last place, past the end
pub searches : (find_from (characters "DEVC") 0 ≡ Some 0) × (find_from (characters "DEVC") 1 ≡ None) × (find_from (characters "DEVCDEVC") 1 ≡ Some 4) × (find_from (characters "xxDEVC") 0 ≡ Some 2) × (find_from (characters "DEVC") 9 ≡ None)
unfolding find_from first_in begins
searches = (refl, refl, refl, refl, refl)
