-- A file that is read piece by piece and taken step by step: what the steps tell, in order. The bytes from the place that a step tells are kept, and
-- what is read next stands behind them. Document 01, Raw files: "Files have no length limit." Assumes nothing: these are definitions.
use Rattle.std.specs.Prelude.{◌≡◌, ℕ, ◌-◌, true, cond, List, [], ◌∷◌, ◌++◌, drop, nat_lt}
use Rattle.raw_file.specs.declared.Packet.{Packet}
use Rattle.raw_file.specs.Packets.{bytes_in}
use Rattle.raw_file.specs.Window.{any_left}
use Rattle.window.specs.declared.Places.{Places}
use Rattle.window.specs.declared.Step.TheVariants.{Held, Long, Read, End}
use Rattle.window.specs.Steps.{most_held, next_step}

-- what is told of a packet: its start in the file, and its bytes, or how many they are
pub data Told : Type 0 where
  held : ℕ → List ℕ → Told
  long : ℕ → ℕ → Told

-- what is to be told of a packet of a file
abbrev pub told_of : List ℕ → Packet → Told
told_of file packet =
    cond (nat_lt most_held (packet.end - packet.start)) (long packet.start (packet.end - packet.start)) (held packet.start (bytes_in file packet))

-- nothing is held yet
abbrev pub at_start : Places
at_start = record { base = 0; at = 0; first = 0; second = 0 }

-- THE STEPS from a window and its places on, by what is still read, and what they tell
pub data Takes : List ℕ → Places → List (List ℕ) → List Told → Type 0 where
  ends : {window : List ℕ} {p : Places} {reads : List (List ℕ)} → next_step window (any_left reads) p ≡ End → Takes window p reads []
  tells_held : {window : List ℕ} {p : Places} {reads : List (List ℕ)} {packet : Packet} {start : ℕ} {rest : Places} {told : List Told}
      → next_step window (any_left reads) p ≡ Held packet start rest → Takes window rest reads told → Takes window p reads (held start (bytes_in window packet) ∷ told)
  tells_long : {window : List ℕ} {p : Places} {reads : List (List ℕ)} {start bytes : ℕ} {rest : Places} {told : List Told}
      → next_step window (any_left reads) p ≡ Long start bytes rest → Takes window rest reads told → Takes window p reads (long start bytes ∷ told)
  reads_on : {window : List ℕ} {p : Places} {read : List ℕ} {reads : List (List ℕ)} {from : ℕ} {rest : Places} {told : List Told}
      → next_step window true p ≡ Read from rest → Takes (drop from window ++ read) rest reads told → Takes window p (read ∷ reads) told
