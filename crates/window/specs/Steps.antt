-- What is done next with a window of a raw file that is read piece by piece: a packet is told, or more is read. Document 01, Raw files: "Files have
-- no length limit. Each `DEVC` with more than 4 bytes after it starts a packet". Assumes nothing: these are definitions.
use Rattle.std.specs.Prelude.{Option, Some, None, ◌≡◌, ℕ, ◌+◌, ◌-◌, ◌%◌, ◌^◌, max, Bool, true, false, cond, List, ◌++◌, length, take, drop, nat_lt}
use Rattle.search.specs.Search.{find_from}
use Rattle.raw_file.specs.Window.{in_window_of}
use Rattle.raw_file.specs.declared.Packet.{Packet}
use Rattle.raw_file.specs.declared.InWindow.{InWindow}
use Rattle.raw_file.specs.declared.InWindow.TheVariants as in_window
use Rattle.window.specs.declared.Places.{Places}
use Rattle.window.specs.declared.Step.{Step}
use Rattle.window.specs.declared.Step.TheVariants.{Held, Long, Read, End}

-- the most bytes that are held of a packet
abbrev pub most_held : ℕ
most_held = 65536

-- a DEVC may begin in the last three bytes of a window and end in what is read next
abbrev pub last_bytes : ℕ
last_bytes = 3

-- with more bytes of a window behind a DEVC's place its packet is over what is held wherever it ends, and so is one that overlaps it: 8 to its start,
-- the most, those in which the DEVC that ends it may begin, and 7 by which the other may start later
abbrev pub over_held : ℕ
over_held = 8 + most_held + last_bytes + 7

-- the place in the file of a place in a window, by the place in the file of the window's first byte; places in a file have 64 bits
abbrev pub in_file : ℕ → ℕ → ℕ
in_file base at = (base + at) % 2 ^ 64

-- where the packet starts in the file whose DEVC stands at a place of the window: 8 past it
abbrev pub start_at : ℕ → ℕ → ℕ
start_at base devc = in_file base (devc + 8)

-- the same window with no end sought, to be cut on from a place
abbrev pub cut_from : Places → ℕ → Places
cut_from p at = record { base = p.base; at = at; first = 0; second = 0 }

-- the bytes from a place on are kept, and more is read behind them
abbrev pub read_from : Places → ℕ → Step
read_from p from = Read from (record { base = in_file p.base from; at = 0; first = p.first; second = p.second })

-- a packet that is known: by its bytes in the window, or where it has more than are held, by its start and its length alone
abbrev pub tell_packet : Places → Packet → ℕ → Step
tell_packet p packet rest =
    cond (nat_lt most_held (packet.end - packet.start)) (Long (in_file p.base packet.start) (packet.end - packet.start) (cut_from p rest))
    (Held packet (in_file p.base packet.start) (cut_from p rest))

-- the start of a packet whose DEVC was found behind another; 0 where there is none
abbrev pub overlapping : ℕ → Option ℕ → ℕ
overlapping base (Some at) = start_at base at
overlapping base None = 0

-- a packet over what is held, whose DEVC stands at a place: its end is sought, and that of the one that overlaps it, from the last bytes on
abbrev pub read_past : List ℕ → Places → ℕ → Step
read_past bytes p from =
    read_from (record { base = p.base; at = p.at; first = start_at p.base from; second = overlapping p.base (find_from bytes (from + 1)) }) (length bytes - last_bytes)

-- by what the window tells
abbrev pub tell_next : List ℕ → Places → InWindow → Step
tell_next bytes p (in_window.Next next) = tell_packet p next.packet next.rest.at
tell_next bytes p (in_window.More from) = cond (nat_lt (from + over_held) (length bytes)) (read_past bytes p from) (read_from p from)
tell_next bytes p in_window.End = End

-- the end that was sought: the first packet that has it is told, and the second is the next
abbrev pub tell_long : Places → ℕ → Step
tell_long p end = Long p.first (in_file p.base end - p.first) (record { base = p.base; at = end; first = p.second; second = 0 })

-- an end is sought: "to the next `DEVC` searched from there, or the end"
abbrev pub seek_end : List ℕ → Bool → Places → Option ℕ → Step
seek_end bytes more p (Some end) = tell_long p end
seek_end bytes true p None = read_from p (max p.at (length bytes - last_bytes))
seek_end bytes false p None = tell_long p (length bytes)

-- THE NEXT STEP, by the window's bytes and whether the file goes on behind them
unfoldable pub next_step : List ℕ → Bool → Places → Step
next_step bytes more p = cond (nat_lt 0 p.first) (seek_end bytes more p (find_from bytes p.at)) (tell_next bytes p (in_window_of bytes more p.at))

-- ---- the bytes that are kept

-- of the first so many bytes those from a place on
abbrev pub kept_of : List ℕ → ℕ → ℕ → List ℕ
kept_of bytes count from = drop from (take count bytes)

-- they stand at the front, and how many they are is answered; what stood behind stays
pub record Keeps (bytes : List ℕ) (count from answer : ℕ) (after : List ℕ) : Type 0 where
  pub is : answer ≡ length (kept_of bytes count from)
  pub leaves : after ≡ kept_of bytes count from ++ drop (length (kept_of bytes count from)) bytes
