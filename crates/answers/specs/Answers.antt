-- What a whole number, an item and a part are told as to a caller in another language: a record of numbers, of which
-- those that the answer does not have are 0 (document 01, Refusal numbers: "A refusal returns its number, a place and
-- zeros"). Assumes nothing: these are definitions.
use Rattle.std.specs.Prelude.{ℕ, Option, Some, None, Result, Ok, Err}
use Rattle.foundation.specs.Refusals.{number_of}
use Rattle.foundation.specs.declared.refusal.Fault.{Fault}
use Rattle.foundation.specs.declared.refusal.Fault.TheVariants as fault
use Rattle.foundation.specs.declared.refusal.Refusal.{Refusal}
use Rattle.klv.specs.declared.KLV.{KLV}
use Rattle.klv.specs.declared.Broken.{Broken}
use Rattle.klv.specs.declared.Broken.TheVariants as broken
use Rattle.last_item.specs.declared.Last.{Last}
use Rattle.line.specs.declared.HexError.{HexError}
use Rattle.line.specs.declared.HexError.TheVariants as hex
use Rattle.tagged.specs.declared.Tagged.{Tagged}
use Rattle.parts.specs.declared.Part.{Part}
use Rattle.answer_kinds.specs.Kinds.{refused, is, nothing, more}
use Rattle.answers.specs.declared.WholeAnswer.{WholeAnswer}
use Rattle.answers.specs.declared.ItemAnswer.{ItemAnswer}
use Rattle.answers.specs.declared.PartAnswer.{PartAnswer}

-- ---- a whole number

-- an answer that has a whole number
abbrev pub whole : ℕ → ℕ → ℕ → ℕ → WholeAnswer
whole kind number place value = record { kind = kind; number = number; place = place; value = value }

-- a whole number, none, or a refusal
abbrev pub whole_told : Result (Option ℕ) Refusal → WholeAnswer
whole_told (Ok (Some n)) = whole is 0 0 n
whole_told (Ok None) = whole nothing 0 0 0
whole_told (Err r) = whole refused r.number r.place 0

-- a whole number, or a fault by its number, at place 0
abbrev pub fault_told : Result ℕ Fault → WholeAnswer
fault_told (Ok n) = whole is 0 0 n
fault_told (Err f) = whole refused (number_of f) 0 0

-- the characters of an expanded type: over 256 of them are refusal 8 (`told` of `custom_type`)
abbrev pub of_expanded : Result ℕ Fault → WholeAnswer
of_expanded = fault_told

-- the milliseconds of a date: too few bytes are refusal 6, and one that is not readable 7 (`date_of` of `dates`)
abbrev pub of_date : Result ℕ Fault → WholeAnswer
of_date = fault_told

-- the columns of a row, or how many elements were laid
abbrev pub of_count : Result ℕ Refusal → WholeAnswer
of_count (Ok n) = whole is 0 0 n
of_count (Err r) = whole refused r.number r.place 0

-- the row that a lookup finds
abbrev pub of_found : Result (Option ℕ) Refusal → WholeAnswer
of_found = whole_told

-- the stamp of a group
abbrev pub of_stamp : Result (Option ℕ) Refusal → WholeAnswer
of_stamp = whole_told

-- ---- an item

-- the header of an answer that has none
abbrev pub no_klv : KLV
no_klv = record { key = 0; data_type = 0; size = 0; repeat = 0 }

-- an answer that has a header, and its place
abbrev pub item : ℕ → ℕ → ℕ → KLV → ItemAnswer
item kind number place klv = record { kind = kind; number = number; place = place; klv = klv }

-- an item at a place, none, or a refusal
abbrev pub item_told : Result (Option Last) Refusal → ItemAnswer
item_told (Ok (Some found)) = item is 0 found.place found.klv
item_told (Ok None) = item nothing 0 0 no_klv
item_told (Err r) = item refused r.number r.place no_klv

-- refusal 12 for fewer than 8 bytes, 2 for a payload that runs past the end
abbrev pub fault_of : Broken → Fault
fault_of broken.Short = fault.NoItem
fault_of broken.Past = fault.PastEnd

-- of the item at a place
abbrev pub of_header : ℕ → Result KLV Broken → ItemAnswer
of_header at (Ok h) = item is 0 at h
of_header at (Err b) = item refused (number_of (fault_of b)) at no_klv

-- the last item of a level
abbrev pub of_last_item : Result (Option Last) Refusal → ItemAnswer
of_last_item = item_told

-- the header of an item that is asked for by its place
abbrev pub of_headed : ℕ → Result KLV Refusal → ItemAnswer
of_headed at (Ok h) = item is 0 at h
of_headed at (Err r) = item refused r.number r.place no_klv

-- the item of a group and a tag
abbrev pub of_tagged : Result (Option Tagged) Refusal → ItemAnswer
of_tagged (Ok (Some found)) = item is 0 found.place found.klv
of_tagged (Ok None) = item nothing 0 0 no_klv
of_tagged (Err r) = item refused r.number r.place no_klv

-- ---- a part of what was lent

-- an answer that has a start and a length
abbrev pub part : ℕ → ℕ → ℕ → ℕ → ℕ → PartAnswer
part kind number place start n = record { kind = kind; number = number; place = place; start = start; length = n }

-- the bytes of an item, or a text of it
abbrev pub of_part : Result Part Refusal → PartAnswer
of_part (Ok p) = part is 0 0 p.start p.length
of_part (Err r) = part refused r.number r.place 0 0

-- ---- a raw file

-- the place of a DEVC
abbrev pub of_devc : Option ℕ → WholeAnswer
of_devc x = whole_told (Ok x)

-- ---- what is read out of a line

-- the number that a word is, or none
abbrev pub of_number : Option ℕ → WholeAnswer
of_number x = whole_told (Ok x)

-- how many bytes hex digits tell; `more` where they do not fit
abbrev pub of_decoded : Result ℕ HexError → WholeAnswer
of_decoded (Ok n) = whole is 0 0 n
of_decoded (Err hex.NoRoom) = whole more 0 0 0
of_decoded (Err hex.NotHex) = whole nothing 0 0 0
