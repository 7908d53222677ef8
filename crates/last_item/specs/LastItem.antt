-- What a call for the last item answers: what the chain ends at, told as the code's result, a refusal by its number. Document 01, Refusal numbers
-- ("The chain's, called alone, is the start of the item or leftover bytes it stops at"). Assumes nothing: these are definitions.
use Rattle.std.specs.Prelude.{Result, Ok, Option, Some, None}
use Rattle.foundation.specs.declared.refusal.Refusal.{Refusal}
use Rattle.foundation.specs.Refusals.{refuse}
use Rattle.reading.specs.Refusal.{number}
use Rattle.reading.specs.Last.{Last, none, last, stopped}
use Rattle.last_item.specs.declared.Last as answer

-- nothing, the last item's place and header, or a refusal's number and place
abbrev pub told : Last → Result (Option answer.Last) Refusal
told none = Ok None
told (last at h) = Ok (Some (record { place = at; klv = h }))
told (stopped why at) = refuse (number why) at
