-- After so many bytes the number is that of the first so many, which as many bytes hold.
use Rattle.std.proofs.Common.{◌≡◌, ◌<◌, ◌^◌, take}
use Rattle.foundation.specs.BigEndian.{big_endian}
use Rattle.foundation.proofs.big_endian.Given as goal

abbrev pub invariant-loop-b : goal.invariant-loop-b
invariant-loop-b l = (l.number ≡ big_endian (take l.b-index l.b-items)) × (l.number < 256 ^ l.b-index)
