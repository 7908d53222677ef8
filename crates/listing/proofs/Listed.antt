-- The listing of a payload, from its parts: the first line of what the walk answers, then the lines of the rows that it left. Assumes nothing.
use Prim.Native.Nat.{ℕ, ◌*◌, ◌≤◌}
use mathlib.Core.Path.{◌≡◌, refl, ap, ◌∙◌}
use mathlib.Core.Bool.{false}
use mathlib.Core.List.{List, [], ◌∷◌}
use native.Mathlib.Omega.{arith}
use lib.ListN.{length, drop, length-map}
use Rattle.foundation.specs.BigEndian.{AreBytes}
use Rattle.reading.specs.Record.{row_width}
use Rattle.reading.specs.Walk.{Outcome, accepted, refused, reading_of, room_of}
use Rattle.reading.specs.Answer.{lent}
use Rattle.reading.proofs.Bounds.{read_bound}
use Rattle.walk.specs.declared.Metadata.{Metadata}
use Rattle.foundation.specs.declared.refusal.Refusal.{Refusal}
use Rattle.std.specs.Prelude.{Result, Ok, Err}
use Rattle.walk.specs.Metadata.{told, Read}
use Rattle.listing_line.specs.Line.{answer_line}
use Rattle.listing.specs.Listing.{record_line, record_lines, row_lines, Lists}
use Rattle.listing_line.specs.Lines.{LaysLines}
use Rattle.listing_line.proofs.Lines.{lays_none, lays_more}
use Rattle.listing.proofs.Records.{record_written, lines_of_records}

-- no more lines below the first than there is room for rows
few_lines : (s : List ℕ) (room : ℕ) → length (record_lines (reading_of false s room)) ≤ room
few_lines s room = go (reading_of false s room) refl
  where
    go : (o : Outcome) → reading_of false s room ≡ o → length (record_lines o) ≤ room
    go (accepted rs k) e = rw (length-map rs record_line) (read_bound false s room rs k e).records
    go (refused why place) e = omega arith

module _ (s old : List ℕ) (answer : Result Metadata Refusal) (new : List ℕ) where
  abbrev room : ℕ
  room = room_of (length old)

  abbrev outcome : Outcome
  outcome = reading_of false s room

  -- the first line and those behind it
  together : {out : List ℕ} {at first : ℕ} {between : List ℕ} {last : ℕ} {after : List ℕ} → Read outcome old answer new
      → LaysLines (answer_line answer ∷ []) out at first between → LaysLines (record_lines outcome) between first last after → Lists outcome old out at last new after
  together read first rest =
      let all = lays_more (rw (ap answer_line read.is) at first) rest in
      record { is = all.is; leaves = all.leaves; rows = read.rows; short = omega (arith, all.short, few_lines s room) }

  -- ACCEPTED: a line for each row
  module _ (m : Metadata) (read : Read outcome old answer new) (is : answer ≡ Ok m) where
    same_lines : AreBytes s → length new ≡ length old → row_lines new m.rows ≡ record_lines outcome
    same_lines bytes long = go outcome refl read.is read.rows
      where
        go : (o : Outcome) → outcome ≡ o → answer ≡ told o → new ≡ lent o old → row_lines new m.rows ≡ record_lines o
        go (accepted rs k) e a l =
            let many : m.rows ≡ length rs = cc in
            ap (λ (n : ℕ). row_lines new n) many
            ∙ lines_of_records rs new (drop (length rs * row_width) old) l (rw long (read_bound false s room rs k e).records) (record_written false s room rs k bytes e)
        go (refused why place) e a l = let o : ◌≡◌ {A = ℕ} 0 1 = cc in absurd (omega arith)

    pub lists_rows : {out : List ℕ} {at first : ℕ} {between : List ℕ} {last : ℕ} {after : List ℕ} → AreBytes s → length new ≡ length old
        → LaysLines (answer_line answer ∷ []) out at first between → LaysLines (row_lines new m.rows) between first last after → Lists outcome old out at last new after
    lists_rows bytes long first rest = together read first (rw (same_lines bytes long) at rest)

  -- REFUSED: the first line alone
  module _ (r : Refusal) (read : Read outcome old answer new) (is : answer ≡ Err r) where
    no_lines : record_lines outcome ≡ []
    no_lines = go outcome read.is
      where
        go : (o : Outcome) → answer ≡ told o → record_lines o ≡ []
        go (accepted rs k) a = let o : ◌≡◌ {A = ℕ} 0 1 = cc in absurd (omega arith)
        go (refused why at) a = refl

    pub lists_refused : {out : List ℕ} {at last : ℕ} {after : List ℕ} → LaysLines (answer_line answer ∷ []) out at last after → Lists outcome old out at last new after
    lists_refused first = together read first (rw no_lines lays_none)
