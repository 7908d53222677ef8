-- A packet of a take, from its parts: its line, what its bytes are read as, and their rows or the listing of their front. Assumes nothing.
use Prim.Native.Nat.{ℕ}
use mathlib.Core.Path.{◌≡◌, refl, sym, ap, ◌∙◌}
use mathlib.Core.Bool.{Bool, true, false}
use mathlib.Core.List.{List, [], ◌∷◌}
use native.Mathlib.Omega.{arith}
use lib.ListN.{length}
use Rattle.foundation.specs.BigEndian.{AreBytes}
use Rattle.reading.specs.Walk.{Outcome, accepted, refused, reading_of, room_of}
use Rattle.reading.specs.Answer.{lent}
use Rattle.walk.specs.declared.Metadata.{Metadata}
use Rattle.foundation.specs.declared.refusal.Refusal.{Refusal}
use Rattle.std.specs.Prelude.{Result, Ok, Err}
use Rattle.walk.specs.Metadata.{told, Read}
use Rattle.listing_line.specs.Line.{answer_line}
use Rattle.listing.specs.Listing.{row_lines, Lists}
use Rattle.listing_line.specs.Lines.{LaysLines}
use Rattle.listing.proofs.Listed.{lists_rows, lists_refused}
use Rattle.take_lines.specs.Lines.{packet_line, LaysAll}
use Rattle.take.specs.Take.{left_out, Fronts, Takes}
use Rattle.take_lines.proofs.Laying.{none, listed, more}

module _ (number place : ℕ) (s old : List ℕ) (answer : Result Metadata Refusal) (new : List ℕ) where
  abbrev outcome : Outcome
  outcome = reading_of false s (room_of (length old))

  -- ACCEPTED: its line and its listing
  pub takes_rows : (whole : Bool) (m : Metadata) {out : List ℕ} {at line : ℕ} {o₁ : List ℕ} {first : ℕ} {o₂ : List ℕ} {last : ℕ} {after : List ℕ} → Read outcome old answer new
      → answer ≡ Ok m → AreBytes s → length new ≡ length old → LaysAll (packet_line number place (length s)) out at line o₁
      → LaysLines (answer_line answer ∷ []) o₁ line first o₂ → LaysLines (row_lines new m.rows) o₂ first last after → Takes whole number place s outcome old out at last true new after
  takes_rows whole m {out} {at} {line} {o₁} {first} {o₂} {last} {after} read is bytes long l f r =
      go outcome read.is read.rows (lists_rows s old answer new m read is bytes long f r)
    where
      go : (o : Outcome) → answer ≡ told o → new ≡ lent o old → Lists o old o₁ line last new after → Takes whole number place s o old out at last true new after
      go (accepted rs k) a n lists = record { lays = more l (listed lists); is = refl; rows = n }
      go (refused why stop) a n lists = let o : ◌≡◌ {A = ℕ} 0 1 = cc in absurd (omega arith)

  -- LEFT OUT
  pub takes_nothing : {whole : Bool} {out : List ℕ} {at : ℕ} → Read outcome old answer new → left_out whole answer ≡ true
      → Takes whole number place s outcome old out at at false new out
  takes_nothing {whole} {out} {at} read out-of-it = by_answer answer refl
    where
      go : (o : Outcome) (r : Refusal) → answer ≡ Err r → answer ≡ told o → new ≡ lent o old → Takes true number place s o old out at at false new out
      go (accepted rs k) r is a n = let o : ◌≡◌ {A = ℕ} 0 1 = cc in absurd (omega arith)
      go (refused w p) r is a n = record { lays = none; is = refl; rows = n }

      by_answer : (m : Result Metadata Refusal) → answer ≡ m → Takes whole number place s outcome old out at at false new out
      by_answer (Ok m) is =
          let f : false ≡ true = sym (ap (left_out whole) is) ∙ out-of-it in
          let o : ◌≡◌ {A = ℕ} 0 1 = cc in
          absurd (omega arith)
      by_answer (Err r) is =
          let all : whole ≡ true = sym (ap (left_out whole) is) ∙ out-of-it in
          rw all (go outcome r is read.is read.rows)

  -- REFUSED: its line, the refusal and its front
  pub takes_front : {whole : Bool} (r : Refusal) {out : List ℕ} {at line : ℕ} {o₁ : List ℕ} {first : ℕ} {o₂ : List ℕ} {last : ℕ} {later after : List ℕ} → Read outcome old answer new
      → answer ≡ Err r → left_out whole answer ≡ false → LaysAll (packet_line number place (length s)) out at line o₁ → LaysLines (answer_line answer ∷ []) o₁ line first o₂
      → Fronts s r.place new o₂ first last later after → Takes whole number place s outcome old out at last false later after
  takes_front {whole} r {out} {at} {line} {o₁} {first} {o₂} {last} {later} {after} read is in_it l f front =
      let all : whole ≡ false = sym (ap (left_out whole) is) ∙ in_it in
      rw all (go outcome read.is read.rows (lists_refused s old answer new r read is f))
    where
      go : (o : Outcome) → answer ≡ told o → new ≡ lent o old → Lists o old o₁ line first new o₂ → Takes false number place s o old out at last false later after
      go (accepted rs k) a n lists = let o : ◌≡◌ {A = ℕ} 0 1 = cc in absurd (omega arith)
      go (refused w p) a n lists =
          let here : r.place ≡ p = cc in
          let kept : new ≡ old = n in
          let there : Fronts s p old o₂ first last later after = rw (here, kept) at front in
          record { lays = more l (more (listed lists) there.lays); is = refl; rows = there.rows }
