-- What the calls come to, by what the cursor answers: the packet's reading is that of its own bytes, and is told with the cursor. Assumes nothing.
use Prim.Native.Nat.{ℕ, ◌+◌, ◌<◌, ◌≤◌}
use mathlib.Core.Path.{◌≡◌, sym, ap, ◌∙◌}
use mathlib.Core.Bool.{Bool, true, false, cond}
use mathlib.Core.List.{List}
use borrow.Author.Tests.{lt-ltb, le-ltb}
use lib.Dec.{ltb}
use lib.ListN.{length}
use Rattle.reading.specs.Walk.{room_of}
use Rattle.foundation.specs.declared.refusal.Refusal.{Refusal}
use Rattle.std.specs.Prelude.{Some, None, Result}
use Rattle.walk.specs.declared.Metadata.{Metadata}
use Rattle.walk.specs.Metadata.{Read}
use Rattle.raw_file.specs.declared.Next.{Next}
use Rattle.raw_file.specs.declared.InWindow.TheVariants as in_window
use Rattle.raw_file.specs.Packets.{next_packet}
use Rattle.raw_file.specs.Window.{in_window_of}
use Rattle.raw_metadata.specs.declared.MetadataInWindow.{MetadataInWindow}
use Rattle.raw_metadata.specs.declared.MetadataInWindow.TheVariants as here
use Rattle.raw_metadata.specs.Readings.{reading_in, told_with, metadata_of, lent_for, ReadNext}
use Rattle.raw_metadata.specs.Window.{over_bytes, too_long_at, over_limit, metadata_in, lent_in, ReadInWindow}

module _ (forced : Bool) (bytes : List ℕ) (at : ℕ) (old : List ℕ) where
  -- ---- in a file

  pub no_packet_lem : next_packet bytes at ≡ None → ReadNext forced bytes at old None old
  no_packet_lem e = record { is = sym (ap (metadata_of forced bytes (room_of (length old))) e); rows = sym (ap (lent_for forced bytes old) e) }

  pub a_packet : (next : Next) (m : Result Metadata Refusal) (new : List ℕ) → next_packet bytes at ≡ Some next
      → Read (reading_in forced bytes (room_of (length old)) next.packet) old m new → ReadNext forced bytes at old (Some (told_with next m)) new
  a_packet next m new e r =
      record {
        is = ap (λ (x : Result Metadata Refusal). Some (told_with next x)) r.is ∙ sym (ap (metadata_of forced bytes (room_of (length old))) e);
        rows = r.rows ∙ sym (ap (lent_for forced bytes old) e);
      }

  -- ---- in a window, with more to come or not

  module _ (more : Bool) where
    pub no_packet_in : in_window_of bytes more at ≡ in_window.End → ReadInWindow forced bytes more at old here.End old
    no_packet_in e = record { is = sym (ap (metadata_in forced bytes (room_of (length old))) e); rows = sym (ap (lent_in forced bytes old) e) }

    pub more_in : (from : ℕ) (answer : MetadataInWindow) → in_window_of bytes more at ≡ in_window.More from → answer ≡ over_limit (length bytes) from
        → ReadInWindow forced bytes more at old answer old
    more_in from answer e o =
        record { is = o ∙ sym (ap (metadata_in forced bytes (room_of (length old))) e); rows = sym (ap (lent_in forced bytes old) e) }

    pub a_packet_in : (next : Next) (m : Result Metadata Refusal) (new : List ℕ) → in_window_of bytes more at ≡ in_window.Next next
        → Read (reading_in forced bytes (room_of (length old)) next.packet) old m new → ReadInWindow forced bytes more at old (here.Is (told_with next m)) new
    a_packet_in next m new e r =
        record {
          is = ap (λ (x : Result Metadata Refusal). here.Is (told_with next x)) r.is ∙ sym (ap (metadata_in forced bytes (room_of (length old))) e);
          rows = r.rows ∙ sym (ap (lent_in forced bytes old) e);
        }

-- ---- over the limit or not

module _ (size from : ℕ) where
  decided : (b : Bool) → ltb (from + over_bytes) size ≡ b → cond b (too_long_at from) (here.More from) ≡ over_limit size from
  decided b e = ap (λ (x : Bool). cond x (too_long_at from) (here.More from)) (sym e)

  pub is_over : from + over_bytes < size → too_long_at from ≡ over_limit size from
  is_over h = decided true (lt-ltb (from + over_bytes) size h)

  pub not_over : size ≤ from + over_bytes → here.More from ≡ over_limit size from
  not_over h = decided false (le-ltb (from + over_bytes) size h)
