-- A piece of a text: up to a byte. Assumes nothing: these are definitions.
use Rattle.std.specs.Prelude.{ℕ, List, take}
use Rattle.foundation.specs.Pieces.{before}

-- the bytes before the first that is b
abbrev pub up_to : ℕ → List ℕ → List ℕ
up_to b s = take (before b s) s
