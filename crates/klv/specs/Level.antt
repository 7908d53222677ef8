-- A level: what bytes mean as a run of items, each with its own insides. Everything said of a payload is said over this tree.
-- GPMF description, Key, length, value ("steps over it by its length") and Structure. Assumes nothing: these are definitions.
use Rattle.std.specs.Prelude.{ℕ, List, length}
use Rattle.foundation.specs.Fuel.{fix}
use Rattle.klv.specs.declared.KLV.{KLV}
use Rattle.klv.specs.Item.{First, few, past, item, first_item}

-- a level: its items one behind the other, and how it ends
pub data Level : Type 0 where
  left : ℕ → Level  -- no more items: so many bytes are left over, fewer than 8
  broken : Level  -- the next item's payload runs past the end of the level
  node : KLV → List ℕ → Level → Level → Level  -- an item's header, its payload, that payload as a level, and the items behind it

-- a level goes on as what stands first says: the payload is a level of its own, which only a container's reader looks at
abbrev pub level_from : (List ℕ → Level) → List ℕ → First → Level
level_from items s few = left (length s)
level_from items s past = broken
level_from items s (item h payload rest) = node h payload (items payload) (items rest)

-- one step of the splitting
abbrev pub step_items : (List ℕ → Level) → List ℕ → Level
step_items items s = level_from items s (first_item s)

-- THE ITEMS of some bytes
unfoldable pub items_of : List ℕ → Level
items_of s = fix length (left 0) step_items s
