-- What `parse_header` answers: the case of the first item. Assumes nothing: these are definitions.
use Rattle.std.specs.Prelude.{ℕ, List, drop, Result, Ok, Err}
use Rattle.klv.specs.Item.{First, few, past, item, first_item}
use Rattle.klv.specs.declared.KLV.{KLV}
use Rattle.klv.specs.declared.Broken.{Broken}
use Rattle.klv.specs.declared.Broken.TheVariants.{Short, Past}

-- an item is told by its header
abbrev pub told : First → Result KLV Broken
told few = Err Short
told past = Err Past
told (item h payload rest) = Ok h

-- of the first item of some bytes
abbrev pub header_of_first : List ℕ → Result KLV Broken
header_of_first s = told (first_item s)

-- of the item at a place
abbrev pub header_at : List ℕ → ℕ → Result KLV Broken
header_at s at = header_of_first (drop at s)
