-- The lines of rows: whether there is room for so many, and one row more. Assumes nothing.
use Prim.Native.Nat.{ℕ, ◌+◌, ◌<◌, ◌≤◌}
use mathlib.Core.Path.{◌≡◌, ap}
use mathlib.Core.Bool.{Bool, cond}
use mathlib.Core.List.{List, [], ◌∷◌, map, map-append}
use native.Mathlib.Numerals.{add-one}
use borrow.Author.Tests.{lt-ltb, le-ltb}
use lib.ListN.{length}
use Rattle.reading.specs.Refusal.{number, no_room_left}
use Rattle.reading.specs.Walk.{room_of}
use Rattle.rows.specs.Row.{row_of, row_at}
use Rattle.rows.specs.Lookup.{rows_of}
use Rattle.foundation.specs.Refusals.{refuse}
use Rattle.std.specs.Prelude.{Some, None}
use Rattle.rows.proofs.Laid.{has_row_lem}
use Rattle.rows.proofs.Search.{rows_more}
use Rattle.listing_line.specs.Line.{row_line, answer_line}
use Rattle.listing_line.specs.Lines.{LaysLines}
use Rattle.listing_line.proofs.Lines.{lays_more}
use Rattle.listing.specs.Listing.{line_at, row_lines}

module _ (s : List ℕ) (count : ℕ) where
  abbrev lines : Bool → List (List ℕ)
  lines more = cond more (answer_line (refuse (number no_room_left) 0) ∷ []) (map row_line (rows_of count s))

  -- rows that there is room for have a line each
  pub with_room : count ≤ room_of (length s) → row_lines s count ≡ map row_line (rows_of count s)
  with_room h = ap lines (le-ltb (room_of (length s)) count h)

  -- more have the refusal alone
  pub without_room : room_of (length s) < count → row_lines s count ≡ answer_line (refuse (number no_room_left) 0) ∷ []
  without_room h = ap lines (lt-ltb (room_of (length s)) count h)

module _ (s : List ℕ) (n : ℕ) where
  -- a row that there is room for has a line
  line_there : n < room_of (length s) → line_at (row_at s n) ≡ row_line (row_of s n) ∷ []
  unfolding row_at
  line_there h = ap (λ (b : Bool). line_at (cond b (Some (row_of s n)) None)) (has_row_lem s n h)

  -- ONE ROW MORE
  pub lays_row : {out : List ℕ} {at middle : ℕ} {between : List ℕ} {answer : ℕ} {after : List ℕ} → n < room_of (length s)
      → LaysLines (map row_line (rows_of n s)) out at middle between → LaysLines (line_at (row_at s n)) between middle answer after
      → LaysLines (map row_line (rows_of (n + 1) s)) out at answer after
  lays_row h first second =
      rw (add-one n, rows_more n s, map-append row_line (rows_of n s) (row_of s n ∷ [])) (lays_more first (rw (line_there h) at second))
