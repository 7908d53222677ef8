-- The header count of a reading, by its items. Document 02, No. 10: "report one header for each item, forced or not".
-- Assumes nothing: these are definitions.
use Rattle.std.specs.Prelude.{ℕ, ◌+◌}
use Rattle.klv.specs.Level.{Level, left, broken, node}
use Rattle.reading.specs.Walk.{Role, empty, container, type_item, row_item, role_of}

-- the items of a level itself
unfoldable pub items_on : Level → ℕ
items_on (left n) = 0
items_on broken = 0
items_on (node h payload within behind) = 1 + items_on behind

-- what lies in an item: in a container so many, in any other none
abbrev pub in_container : Role → ℕ → ℕ
in_container empty n = 0
in_container container n = n
in_container type_item n = 0
in_container row_item n = 0

-- the items below a level, in its containers
unfoldable pub items_below : Level → ℕ
items_below (left n) = 0
items_below broken = 0
items_below (node h payload within behind) = in_container (role_of h) (items_on within + items_below within) + items_below behind

-- THE FORMULA: "one for each item"
unfoldable pub headers_by_items : Level → ℕ
headers_by_items level = items_on level + items_below level
