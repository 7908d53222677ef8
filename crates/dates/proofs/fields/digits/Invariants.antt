-- `digits` meets its contract: at each byte the digits left over, behind the number so far, stand for the number of all. Assumes nothing.
use mathlib.Core.Path.{◌≡◌}
use Prim.Native.Nat.{◌-◌, ◌^◌, ◌<◌}
use Rattle.dates.specs.Fields.{digits, field}
use Rattle.dates.proofs.Digits.{digits_after}
use Rattle.dates.proofs.fields.digits.Given as goal

abbrev pub invariant-loop-i : goal.invariant-loop-i
invariant-loop-i l = (digits (field l.text l.from l.to) ≡ digits_after l.number (field l.text l.i l.to)) × (l.number < 10 ^ (l.i - l.from))
