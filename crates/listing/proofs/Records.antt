-- The lines of the rows that a reading leaves in lent numbers are the lines of its records. Assumes nothing.
use Prim.Native.Nat.{ℕ, ◌/◌, ◌%◌, ◌≤◌}
use mathlib.Core.Path.{◌≡◌, refl, ap, ◌∙◌}
use mathlib.Core.Bool.{Bool}
use mathlib.Core.List.{List, [], ◌∷◌, ◌++◌, map, flat_map, Memᴰ}
use native.Mathlib.Omega.{arith}
use lib.ListN.{length, drop}
use Rattle.foundation.specs.BigEndian.{AreBytes}
use Rattle.klv.specs.declared.KLV.{KLV}
use Rattle.klv.specs.Item.{Written, payload_at, next_at}
use Rattle.klv.proofs.Laid.{laid_first}
use Rattle.klv.proofs.Place.{first_item_lem}
use Rattle.foundation.proofs.Bytes.{drop_bytes}
use Rattle.reading.specs.Record.{Group, callers, named, Record, numbers, group_kind, group_key, shape}
use Rattle.reading.specs.Walk.{accepted, reading_of, room_of}
use Rattle.reading.proofs.Stand.{read_stands}
use Rattle.rows.specs.declared.Row.{Row}
use Rattle.rows.specs.Row.{taken}
use Rattle.rows.specs.Lookup.{rows_of}
use Rattle.rows.proofs.Search.{rows_of_records}
use Rattle.listing_line.specs.Line.{columns, group_in, header_in, row_line}
use Rattle.listing.specs.Listing.{record_line, row_lines}
use Rattle.listing.proofs.RowLines.{with_room}

-- ---- a record and its row

same_group : (g : Group) (r : Row) → r.group_kind ≡ group_kind g → r.group_key ≡ group_key g → group_in r ≡ g
same_group callers r e f = rw e
same_group (named k) r e f = rw (e, f)

same_header : (h : KLV) (r : Row) → Written h → r.key ≡ h.key → r.shape ≡ shape h → header_in r ≡ h
same_header h r w k e =
    let letter : r.shape / 16777216 ≡ h.data_type = omega (arith, w.size, w.repeat) in
    let size : r.shape / 65536 % 256 ≡ h.size = omega (arith, w.size, w.repeat) in
    let repeat : r.shape % 65536 ≡ h.repeat = omega (arith, w.size, w.repeat) in
    λ i. record { key = k i; data_type = letter i; size = size i; repeat = repeat i }

-- THE LINE OF A RECORD is that of its numbers
pub same_line : (r : Record) → Written r.content.header → row_line (taken (numbers r)) ≡ record_line r
unfolding row_line numbers
same_line r w =
    let row : Row = taken (numbers r) in
    λ i. columns r.place (same_group r.content.group row refl refl i) (same_header r.content.header row w refl refl i) r.content.depth

-- the header of each record of a reading is one that eight bytes hold
pub record_written : (forced : Bool) (s : List ℕ) (room : ℕ) (rs : List Record) (headers : ℕ) → AreBytes s → reading_of forced s room ≡ accepted rs headers
    → (r : Record) → Memᴰ r rs → Written r.content.header
record_written forced s room rs headers bytes e r m =
    let h : KLV = r.content.header in
    let there = (read_stands forced s room rs headers e r m).item.header in
    (laid_first (drop r.place s) h (payload_at s r.place h) (drop (next_at r.place h) s) (drop_bytes r.place s bytes) (first_item_lem s r.place h there)).written

same_lines : (rs : List Record) → ((r : Record) → Memᴰ r rs → Written r.content.header)
    → map row_line (map (λ (r : Record). taken (numbers r)) rs) ≡ map record_line rs
same_lines [] w = refl
same_lines (r ∷ rs) w = λ i. same_line r (w r (Memᴰ.head refl)) i ∷ same_lines rs (λ q m. w q (Memᴰ.tail m)) i

-- THE LINES OF THE ROWS that lent numbers hold after a reading are those of its records
pub lines_of_records : (rs : List Record) (new rest : List ℕ) → new ≡ flat_map numbers rs ++ rest → length rs ≤ room_of (length new)
    → ((r : Record) → Memᴰ r rs → Written r.content.header) → row_lines new (length rs) ≡ map record_line rs
lines_of_records rs new rest e fits w =
    with_room new (length rs) fits ∙ ap (λ (s : List ℕ). map row_line (rows_of (length rs) s)) e ∙ ap (map row_line) (rows_of_records rs rest) ∙ same_lines rs w
