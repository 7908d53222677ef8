-- The numbers that refusals are told by, each under a name, with when it is given. Document 01, Refusal numbers: "Each is given then and not otherwise."
-- Assumes nothing: these are definitions.
use Rattle.std.specs.Prelude.{ℕ, Result, Err}
use Rattle.foundation.specs.declared.refusal.Fault.{Fault}
use Rattle.foundation.specs.declared.refusal.Fault.TheVariants as fault
use Rattle.foundation.specs.declared.refusal.Refusal.{Refusal}

-- "payload over the limit (place 0)"
abbrev pub too_long : ℕ
too_long = 1

-- "an item's payload runs past its level's end (value reads: the payload's end)"
abbrev pub past_end : ℕ
past_end = 2

-- "last-item chain meets 1 to 7 bytes"
abbrev pub left_over : ℕ
left_over = 3

-- "container with payload at depth 16 (outermost is 0)"
abbrev pub too_deep : ℕ
too_deep = 4

-- "a row, written or claimed, does not fit the room (lent numbers / 8, rounded down, at most 4,096)"
abbrev pub no_room_left : ℕ
no_room_left = 5

-- "too few bytes in the item's own payload for the value's whole shape"
abbrev pub too_few : ℕ
too_few = 6

-- "any text of the value, or its date, not readable"
abbrev pub unreadable : ℕ
unreadable = 7

-- "expanded type over 256 characters"
abbrev pub long_type : ℕ
long_type = 8

-- "axis strings not three ASCII characters each"
abbrev pub no_axes : ℕ
no_axes = 9

-- "matrix not nine numbers, or a row with none above 0.5 or below -0.5"
abbrev pub no_matrix : ℕ
no_matrix = 10

-- "duration list over 2,048, a stamp of 2^42 or more, a reading count over 65,535, or a duration not finite"
abbrev pub bad_durations : ℕ
bad_durations = 11

-- "no 8 header bytes or length 0 at the place asked, or, for `?`, the TYPE place named holds no whole one-text TYPE with payload"
abbrev pub no_item : ℕ
no_item = 12

-- "row or column outside the value"
abbrev pub outside : ℕ
outside = 13

-- the number that a fault is told by
abbrev pub number_of : Fault → ℕ
number_of fault.TooLong = too_long
number_of fault.PastEnd = past_end
number_of fault.LeftOver = left_over
number_of fault.TooDeep = too_deep
number_of fault.NoRoom = no_room_left
number_of fault.TooFew = too_few
number_of fault.Unreadable = unreadable
number_of fault.LongType = long_type
number_of fault.NoAxes = no_axes
number_of fault.NoMatrix = no_matrix
number_of fault.BadDurations = bad_durations
number_of fault.NoItem = no_item
number_of fault.Outside = outside

-- "A refusal returns its number, a place"
abbrev pub refused_at : ℕ → ℕ → Refusal
refused_at number place = record { number = number; place = place }

-- the answer of a call that refuses
abbrev pub refuse : {A : Type 0} → ℕ → ℕ → Result A Refusal
refuse number place = Err (refused_at number place)
