-- What is printed of a packet of a take: its line, its listing, and where it is refused the listing of its front.
-- Document 01, Cases, 12, has the listing; the front is demand 1's ("the bytes before the place, read alone with the same room, are accepted").
-- Assumes nothing: these are definitions.
use Rattle.std.specs.Prelude.{ℕ, ◌≡◌, Bool, true, false, List, [], ◌∷◌, ◌++◌, length, take, Result, Ok, Err}
use Rattle.foundation.specs.declared.refusal.Refusal.{Refusal}
use Rattle.foundation.specs.Text.{characters}
use Rattle.reading.specs.Walk.{Outcome, accepted, refused, reading_of, room_of}
use Rattle.reading.specs.Answer.{lent}
use Rattle.walk.specs.declared.Metadata.{Metadata}
use Rattle.listing.specs.Listing.{listing}
use Rattle.take_lines.specs.Lines.{packet_line, LaysAll}

-- ---- the parts of what is printed, one behind the other

-- `front rows N headers M`, and the lines of the front: the bytes before the place, read with the same room
abbrev pub front : List ℕ → ℕ → ℕ → List (List ℕ)
front payload room place = characters "front " ∷ listing (reading_of false (take place payload) room)

-- A PACKET of a file. Of the archivist's whole take a refused one is left out
abbrev pub packet : Bool → ℕ → ℕ → List ℕ → ℕ → Outcome → List (List ℕ)
packet whole number place payload room (accepted rs headers) = packet_line number place (length payload) ++ listing (accepted rs headers)
packet true number place payload room (refused why at) = []
packet false number place payload room (refused why at) = packet_line number place (length payload) ++ (listing (refused why at) ++ front payload room at)

-- whether a packet is left out: a refused one, "of the archivist's whole take"
abbrev pub left_out : Bool → Result Metadata Refusal → Bool
left_out whole (Ok m) = false
left_out whole (Err r) = whole

-- whether a packet counts as read
abbrev pub is_accepted : Outcome → Bool
is_accepted (accepted rs headers) = true
is_accepted (refused why at) = false

-- the lent numbers afterwards: where a packet is refused, those of its front
abbrev pub lent_by : Bool → List ℕ → List ℕ → Outcome → List ℕ
lent_by whole payload old (accepted rs headers) = lent (accepted rs headers) old
lent_by true payload old (refused why at) = old
lent_by false payload old (refused why at) = lent (reading_of false (take at payload) (room_of (length old))) old

-- ---- what is promised

-- the listing of a front, with the lent numbers
pub record Fronts (payload : List ℕ) (place : ℕ) (old out : List ℕ) (at answer : ℕ) (new after : List ℕ) : Type 0 where
  pub lays : LaysAll (front payload (room_of (length old)) place) out at answer after
  pub rows : new ≡ lent (reading_of false (take place payload) (room_of (length old))) old

-- a packet that was read so, laid, with the lent numbers
pub record Takes (whole : Bool) (number place : ℕ) (payload : List ℕ) (outcome : Outcome) (old out : List ℕ) (at answer : ℕ) (read : Bool) (new after : List ℕ) : Type 0 where
  pub lays : LaysAll (packet whole number place payload (room_of (length old)) outcome) out at answer after
  pub is : read ≡ is_accepted outcome
  pub rows : new ≡ lent_by whole payload old outcome
