-- A date (type U) of a payload: document 01, Values, with its refusals 6 and 7. Assumes nothing: these are definitions.
use Rattle.std.specs.Prelude.{ℕ, cond, List, ltb, length, Option, Some, None, Result, Ok, Err}
use Rattle.foundation.specs.Refusals.{number_of}
use Rattle.foundation.specs.declared.refusal.Fault.{Fault}
use Rattle.foundation.specs.declared.refusal.Fault.TheVariants as fault
use Rattle.dates.specs.declared.fields.Day.{Day}
use Rattle.dates.specs.declared.fields.Time.{Time}
use Rattle.dates.specs.Calendar.{milliseconds_of}
use Rattle.dates.specs.Fields.{day_of, time_of}

-- a day and a time that are both read
abbrev pub moment : Option Day → Option Time → Result ℕ Fault
moment (Some d) (Some t) = Ok (milliseconds_of d t)
moment (Some d) None = Err fault.Unreadable
moment None t = Err fault.Unreadable

-- the date of a text: its first 16 bytes
unfoldable pub date_of : List ℕ → Result ℕ Fault
date_of text = cond (ltb (length text) 16) (Err fault.TooFew) (moment (day_of text) (time_of text))

-- document 01, Refusal numbers; 0 for none
abbrev pub refusal : Result ℕ Fault → ℕ
refusal (Ok n) = 0
refusal (Err f) = number_of f
