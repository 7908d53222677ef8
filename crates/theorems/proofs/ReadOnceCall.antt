-- CHANGE REQUEST 10 in what `parse_metadata` answers: one header for each item, forced or not; and refusal 5 without
-- the walk. From the laws of the reading and the call's promise. Assumes nothing.
use Prim.Native.Nat.{ℕ, ◌<◌, ◌≤◌}
use mathlib.Core.Path.{◌≡◌, refl, sym, ap, ◌∙◌}
use mathlib.Core.List.{List}
use native.Mathlib.Omega.{arith}
use contract.Lifetimes.{Lfts}
use denote.Triple.Clauses.{AtExit}
use borrow.Fn.Kinds.{Dens, ended_of}
use lib.ListN.{length}
use Rattle.klv.specs.Level.{items_of}
use Rattle.reading.specs.Refusal.{too_long, past_end, left_over, too_deep, no_room_left}
use Rattle.reading.specs.Walk.{outermost, Outcome, accepted, refused, reading_of, room_of}
use Rattle.reading.specs.Record.{Record}
use Rattle.reading.specs.Free.{free, place_of_record, outer_start, Full}
use Rattle.reading.specs.Once.{HeadersRead}
use Rattle.reading.proofs.OnePass.{headers_read}
use Rattle.reading.proofs.Over.{over_place, full_given}
use Rattle.metadata.proofs.parse_metadata.Kinds as call
use Rattle.metadata.proofs.parse_metadata.Reads as promise
use Rattle.std.specs.Prelude.{Ok, Err}
use Rattle.foundation.specs.Refusals.{refuse}
use Rattle.walk.specs.Metadata.{told}
use Rattle.walk.proofs.Passes.{Answer, counted, rows_of}

-- the number and the place of a refusal
abbrev number_in : Answer → ℕ
number_in (Ok m) = 0
number_in (Err r) = r.number

abbrev place_in : Answer → ℕ
place_in (Ok m) = 0
place_in (Err r) = r.place

module _ (κs : Lfts 2) (a : Dens κs call.ps) (u : AtExit (ended_of 2 call.ps call.r) κs) where
  abbrev room : ℕ
  room = room_of (length a.1.1.0.now)

  abbrev reading : Outcome
  reading = reading_of a.1.0 a.0.now room

  -- ONE HEADER FOR EACH ITEM of the payload's tree, as one pass counts them
  pub headers_answered : (rows headers : ℕ) → promise.Learnt κs a (counted rows headers) u → (rs : List Record) × HeadersRead a.1.0 a.0.now rs headers
  headers_answered rows headers says =
      let f = rows_of reading (counted rows headers) rows headers says.is refl in
      (f.made, headers_read a.1.0 a.0.now room f.made headers f.is)

  only_five : (o : Outcome) (place : ℕ) → refuse 5 place ≡ told o → o ≡ refused no_room_left place
  only_five (accepted rs k) place e = let z : ◌≡◌ {A = ℕ} 0 1 = cc in absurd (omega arith)
  only_five (refused too_long at) place e = let z : ◌≡◌ {A = ℕ} 5 1 = ap number_in e in absurd (omega arith)
  only_five (refused past_end at) place e = let z : ◌≡◌ {A = ℕ} 5 2 = ap number_in e in absurd (omega arith)
  only_five (refused left_over at) place e = let z : ◌≡◌ {A = ℕ} 5 3 = ap number_in e in absurd (omega arith)
  only_five (refused too_deep at) place e = let z : ◌≡◌ {A = ℕ} 5 4 = ap number_in e in absurd (omega arith)
  only_five (refused no_room_left at) place e = ap (refused no_room_left) (sym (ap place_in e))

  -- REFUSAL 5 is for a payload with more records than room, at the outermost item in which the first record without
  -- room stands
  pub full_answered : (place : ℕ) → promise.Learnt κs a (refuse 5 place) u → Full a.1.0 a.0.now room place
  full_answered place says = over_place a.1.0 a.0.now room place (only_five reading place says.is)

  -- and where there are more records than room it is given, unless the payload is over the limit
  pub full_called : (answer : Answer) → promise.Learnt κs a answer u → length a.0.now ≤ 1048576 → room < length (free a.1.0 (items_of a.0.now) outermost).rows
      → answer ≡ refuse 5 (outer_start (items_of a.0.now) 0 (place_of_record (free a.1.0 (items_of a.0.now) outermost).rows room))
  full_called answer says l more = says.is ∙ ap told (full_given a.1.0 a.0.now room l more)
