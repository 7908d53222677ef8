-- Which items are one text, and which of those describe structures: document 01, Values ("c with repeat 1 or size 1, and F") and
-- Items and the walk ("A TYPE item whose value is one text"). Assumes nothing: these are definitions.
use Prim.Native.Char.{code}
use Rattle.std.specs.Prelude.{Bool, ◌&&◌, ◌||◌, eqb}
use Rattle.foundation.specs.Text.{key}
use Rattle.klv.specs.declared.KLV.{KLV}

-- one text (document 01, Values)
unfoldable pub one_text : KLV → Bool
one_text h = eqb h.data_type (code "F") || eqb h.data_type (code "c") && (eqb h.repeat 1 || eqb h.size 1)

-- a TYPE of one text (document 01, Items and the walk)
unfoldable pub type_text : KLV → Bool
type_text h = eqb h.key (key "TYPE") && one_text h
