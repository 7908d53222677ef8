-- A window in its file: the bytes in front of it are done with, those behind it are still to come, and the packets that are left to be told are
-- those from its place on, or first those whose end is sought. Assumes nothing.
use Rattle.std.proofs.Common.{◌≡◌, ℕ, ◌+◌, ◌^◌, ◌<◌, ◌≤◌, Bool, false, cond, ltb, List, [], ◌∷◌, ◌++◌, length, drop, sym, ap, ◌∙◌, mod-eq_of_lt, arith, length-append, length-drop, le-ltb, lt-ltb}
use Rattle.raw_file.specs.declared.Packet.{Packet}
use Rattle.search.specs.Search.{devc_or_end}
use Rattle.raw_file.specs.Packets.{packets_from, next_packet}
use Rattle.raw_file.specs.Window.{in_window_of}
use Rattle.raw_file.proofs.Cursor.{handed, next_first}
use Rattle.raw_file.proofs.Moved.{next_on, next_on_lem, end_on}
use Rattle.raw_file.proofs.Stream as Stream
use Rattle.raw_file.proofs.Stream.{told_and_left}
use Rattle.window.specs.declared.Places.{Places}
use Rattle.window.specs.Steps.{most_held, in_file}

-- a packet whose end was sought, in front of others; a start of 0 is that of none
abbrev pub ending_at : ℕ → ℕ → List Packet → List Packet
ending_at end start others = cond (ltb 0 start) (record { start = start; end = end } ∷ others) others

module _ (file : List ℕ) where
  -- those whose end is sought from a place on, and those from there on
  abbrev pub sought_from : ℕ → ℕ → ℕ → List Packet
  sought_from first second at = record { start = first; end = devc_or_end file at } ∷ ending_at (devc_or_end file at) second (packets_from file (devc_or_end file at))

  -- WHAT IS LEFT to be told
  unfoldable pub left : Places → List Packet
  left p = cond (ltb 0 p.first) (sought_from p.first p.second (p.at + p.base)) (packets_from file (p.at + p.base))

  pub left_packets : (p : Places) → p.first ≤ 0 → left p ≡ packets_from file (p.at + p.base)
  unfolding left
  left_packets p h = rw (le-ltb 0 p.first h)

  pub left_sought : (p : Places) → 0 < p.first → left p ≡ sought_from p.first p.second (p.at + p.base)
  unfolding left
  left_sought p h = rw (lt-ltb 0 p.first h)

  -- A WINDOW in its file
  pub record Stands (window toCome : List ℕ) (p : Places) : Type 0 where
    pub holds : drop p.base file ≡ window ++ toCome
    pub inside : p.base ≤ length file
    pub within : p.at ≤ length window
    pub far : 0 < p.first → p.first + most_held < p.at + p.base
    pub far_second : 0 < p.second → p.second + most_held < p.at + p.base

  module _ {window toCome : List ℕ} {p : Places} (stands : Stands window toCome p) where
    pub reaches : p.base + (length window + length toCome) ≡ length file
    reaches = omega (arith, simp (length-append, length-drop) at (ap length stands.holds), stands.inside)

    -- places in the file have 64 bits
    pub in_file_lem : length file < 2 ^ 64 → (at : ℕ) → at ≤ length window → in_file p.base at ≡ p.base + at
    in_file_lem small at h = mod-eq_of_lt (omega (arith, reaches, small))

    -- the next DEVC, or the end, in what is held and to come
    pub ends_in : (at : ℕ) → devc_or_end file (at + p.base) ≡ devc_or_end (window ++ toCome) at + p.base
    ends_in at = end_on file p.base stands.inside at ∙ ap (λ (bytes : List ℕ). devc_or_end bytes at + p.base) stands.holds

    -- the cursor too
    pub next_in_it : (at : ℕ) → packets_from file (at + p.base) ≡ handed file (next_on p.base (next_packet (window ++ toCome) at))
    next_in_it at =
        sym (next_first file (at + p.base))
        ∙ ap (handed file) (next_on_lem file p.base stands.inside at ∙ ap (λ (bytes : List ℕ). next_on p.base (next_packet bytes at)) stands.holds)

    -- what the window tells
    pub told_in_lem : (more : Bool) → (more ≡ false → toCome ≡ []) → packets_from file (p.at + p.base) ≡ told_and_left file p.base (in_window_of window more p.at)
    told_in_lem more none = Stream.told_in_lem file window toCome p.base stands.inside stands.holds p.at more none

    -- so many bytes are let go of, and what is read stands behind the others
    pub moves : (from : ℕ) → from ≤ length window → (read reads : List ℕ) → toCome ≡ read ++ reads → drop (p.base + from) file ≡ (drop from window ++ read) ++ reads
    moves = Stream.moves file window toCome p.base stands.inside stands.holds
