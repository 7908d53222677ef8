-- What is printed, by the limit on the bytes held; and a listing laid into a buffer that holds the longest one. Assumes nothing.
use Prim.Native.Nat.{ℕ, ◌≤◌, ◌<◌}
use mathlib.Core.Path.{◌≡◌, ap}
use mathlib.Core.Bool.{Bool, true, false, cond}
use mathlib.Core.List.{List, [], ◌∷◌}
use native.Mathlib.Omega.{arith}
use borrow.Author.Tests.{lt-ltb, le-ltb}
use lib.Dec.{ltb}
use lib.ListN.{length}
use Rattle.reading.specs.Refusal.{too_long}
use Rattle.reading.specs.Walk.{Outcome, refused, reading_of, room_of}
use Rattle.walk.specs.Metadata.{told}
use Rattle.foundation.specs.Refusals.{refuse}
use Rattle.listing_line.specs.Line.{answer_line}
use Rattle.listing.specs.Listing.{record_lines, Lists}
use Rattle.listing_line.specs.Lines.{LaysLines, Begins}
use Rattle.listing_line.proofs.Lines.{lines_begin}
use Rattle.gpmf_list.specs.Printed.{held_bytes, row_numbers, read_as, printed}

module _ (s : List ℕ) where
  read_as_lem : (b : Bool) → ltb held_bytes (length s) ≡ b → read_as s ≡ cond b (refused too_long 0) (reading_of false s (room_of row_numbers))
  unfolding read_as
  read_as_lem b e = ap (λ (t : Bool). cond t (refused too_long 0) (reading_of false s (room_of row_numbers))) e

  -- more bytes than are held
  pub prints_refused : (out : List ℕ) {answer : ℕ} {after : List ℕ} → held_bytes < length s → length out ≡ 131072 → length after ≡ length out
      → LaysLines (answer_line (refuse 1 0) ∷ []) out 0 answer after → Begins (printed s) answer after
  prints_refused out h room long l =
      rw (read_as_lem true (lt-ltb held_bytes (length s) h)) (lines_begin (answer_line (refuse 1 0)) [] out (omega (arith, l.short)) (omega arith) long l.is l.leaves)

  -- any other payload
  pub prints_read : (rows out : List ℕ) {answer : ℕ} {new after : List ℕ} → length s ≤ held_bytes → length rows ≡ row_numbers → length out ≡ 131072 → length after ≡ length out
      → Lists (reading_of false s (room_of (length rows))) rows out 0 answer new after → Begins (printed s) answer after
  prints_read rows out {answer} {new} {after} h lent room long l =
      let o : Outcome = reading_of false s (room_of row_numbers) in
      let m : Lists o rows out 0 answer new after = rw lent at l in
      rw (read_as_lem false (le-ltb held_bytes (length s) h)) (lines_begin (answer_line (told o)) (record_lines o) out (omega (arith, m.short)) (omega arith) long m.is m.leaves)
