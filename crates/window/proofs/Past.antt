-- A step past a packet over what is held: it and the one that overlaps it end where the next DEVC is found, sought from the last bytes on.
-- Assumes nothing.
use Rattle.raw_file.specs.Packets.{going}
use Rattle.std.proofs.Common.{Option, Some, None, ◌≡◌, ℕ, ◌+◌, ◌-◌, ◌^◌, ◌<◌, ◌≤◌, Bool, true, false, ltb, List, ◌∷◌, ◌++◌, length, sym, refl, ap, ◌∙◌, arith, length-append, ltb-false, ltb-true, lt-ltb}
use Rattle.search.specs.Search.{find_from, or_end, devc_or_end}
use Rattle.search.proofs.First.{found}
use Rattle.search.proofs.Find.{here}
use Rattle.raw_file.specs.declared.Packet.{Packet}
use Rattle.raw_file.specs.declared.Next.{Next}
use Rattle.raw_file.specs.declared.InWindow.TheVariants as in_window
use Rattle.raw_file.specs.Packets.{packet_at, packets_from, next_packet}
use Rattle.raw_file.specs.Window.{in_window_of}
use Rattle.raw_file.proofs.NextPacket.{devc_or_end_lem, same_end, behind_devc, handed_out_lem, next_packet_lem}
use Rattle.raw_file.proofs.Cursor.{handed}
use Rattle.raw_file.proofs.Window.{stays, goes_on_late, more_packet}
use Rattle.raw_file.proofs.Moved.{next_on}
use Rattle.window.specs.declared.Places.{Places}
use Rattle.window.specs.Steps.{most_held, last_bytes, over_held, in_file, start_at, overlapping, read_past}
use Rattle.window.proofs.Standing.{ending_at, left, left_packets, left_sought, Stands, in_file_lem, ends_in, next_in_it}
use Rattle.window.proofs.Tells.{KeepsLeft, stands_on}

-- a DEVC in what is held and to come, so many bytes in front of the window's end, and the packet of which ends no more than three before that
module _ (window toCome : List ℕ) (at from : ℕ) (is : in_window_of window true at ≡ in_window.More from) (long : from + over_held < length window) where
  abbrev whole : List ℕ
  whole = window ++ toCome

  size : length window ≤ length whole
  size = simp length-append (omega arith)

  late_end : length window ≤ devc_or_end whole (from + 8) + 3
  late_end = (more_packet window toCome at from is (omega arith)).end

  -- the end, sought from any place between its start and the last bytes
  pub ends_late : (k : ℕ) → from + 8 ≤ k → k ≤ length window - last_bytes → devc_or_end whole k ≡ devc_or_end whole (length window - last_bytes)
  ends_late k low high =
      sym (same_end whole (from + 8) k low (omega (arith, late_end))) ∙ same_end whole (from + 8) (length window - last_bytes) (omega arith) (omega (arith, late_end))

  -- the DEVC itself
  devc_there : find_from whole from ≡ Some from
  devc_there =
      let h = handed_out_lem whole at _ _ (more_packet window toCome at from is (omega arith)).next in
      let q : from + 8 - 8 ≡ from = omega arith in
      here whole from (found whole at from (h.devc ∙ ap Some q)).is

  -- the next DEVC behind it stands in front of its packet's start, or ends it
  module _ (q : ℕ) (e : find_from window (from + 1) ≡ Some q) where
    next_devc : find_from whole (from + 1) ≡ Some q
    next_devc = stays window toCome (from + 1) q e

    at_it : devc_or_end whole (from + 1) ≡ q
    at_it = ap (λ (f : Option ℕ). or_end f (length whole)) next_devc

    -- it overlaps: it stands four to seven behind
    pub near : (from + 4 ≤ q) × (q < from + 8)
    near =
        let room : q + 4 ≤ length window = (found window (from + 1) q e).room in
        let apart : devc_or_end whole (from + 8 - 4) ≡ devc_or_end whole (from + 1) = behind_devc whole from (omega (arith, size)) (found whole from from devc_there).is in
        let low : from + 8 - 4 ≤ devc_or_end whole (from + 8 - 4) = (devc_or_end_lem whole (from + 8 - 4) (omega (arith, size))).0 in
        (omega (arith, at_it), not_late (ltb q (from + 8)) refl room)
      where
        not_late : (b : Bool) → ltb q (from + 8) ≡ b → q + 4 ≤ length window → q < from + 8
        not_late true t room = ltb-true _ _ t
        not_late false t room =
            let h : from + 8 ≤ q = ltb-false _ _ t in
            let same : devc_or_end whole (from + 1) ≡ devc_or_end whole (from + 8) = same_end whole (from + 1) (from + 8) (omega arith) (omega (arith, at_it)) in
            absurd (omega (arith, at_it, late_end))

    -- its packet ends where the other does, and behind it there is no other DEVC before that
    pub its_end : devc_or_end whole (q + 8) ≡ devc_or_end whole (length window - last_bytes)
    its_end = ends_late (q + 8) (omega (arith, near.0)) (omega (arith, near.1))

    pub its_rest : devc_or_end whole (q + 1) ≡ devc_or_end whole (length window - last_bytes)
    its_rest =
        let f = found whole (from + 1) q next_devc in
        let n : q + 8 - 4 ≡ q + 4 = omega arith in
        sym (behind_devc whole q (omega (arith, size, near.1)) f.is) ∙ ap (devc_or_end whole) n ∙ ends_late (q + 4) (omega (arith, near.0)) (omega (arith, near.1))

    pub its_next : next_packet whole q ≡ Some (going (packet_at whole q) (record { at = devc_or_end whole (q + 1) }))
    its_next =
        let f = found whole (from + 1) q next_devc in
        sym (next_packet_lem whole q q _ _ (here whole q f.is) (omega (arith, size, near.1)) refl refl)

  -- with none behind it in the window
  pub none_near : find_from window (from + 1) ≡ None → devc_or_end whole (from + 1) ≡ devc_or_end whole (length window - last_bytes)
  none_near e =
      ap (λ (f : Option ℕ). or_end f (length whole)) (goes_on_late window toCome (from + 1) (length window - last_bytes) e (omega arith) (omega arith))

module _ (file : List ℕ) (small : length file < 2 ^ 64) {window toCome : List ℕ} {p : Places} (stands : Stands file window toCome p) (none-sought : p.first ≤ 0)
    (from : ℕ) (is : in_window_of window true p.at ≡ in_window.More from) (long : from + over_held < length window) where
  abbrev last : ℕ
  last = length window - last_bytes

  -- where both end, in the file
  abbrev end : ℕ
  end = devc_or_end (window ++ toCome) last + p.base

  start_at_lem : (at : ℕ) → at + 8 ≤ length window → start_at p.base at ≡ at + 8 + p.base
  start_at_lem at h =
      let turn : p.base + (at + 8) ≡ at + 8 + p.base = omega arith in
      in_file_lem file stands small (at + 8) h ∙ turn

  -- what is left behind the first
  seconds : (f : Option ℕ) → find_from window (from + 1) ≡ f
      → (packets_from file (devc_or_end (window ++ toCome) (from + 1) + p.base) ≡ ending_at end (overlapping p.base f) (packets_from file end))
      × (0 < overlapping p.base f → overlapping p.base f + most_held < last + p.base)
  seconds None e =
      (ap (λ k. packets_from file (k + p.base)) (none_near window toCome p.at from is long e), λ u. absurd (omega arith))
  seconds (Some q) e =
      let n = near window toCome p.at from is long q e in
      let s : start_at p.base q ≡ q + 8 + p.base = start_at_lem q (omega arith) in
      let here_it : devc_or_end (window ++ toCome) (from + 1) ≡ q = at_it window toCome p.at from is long q e in (
        rw (s, lt-ltb 0 (q + 8 + p.base) (omega arith))
            (ap (λ k. packets_from file (k + p.base)) here_it ∙ next_in_it file stands q
            ∙ ap (λ (x : Option Next). handed file (next_on p.base x)) (its_next window toCome p.at from is long q e)
            ∙ (λ i. record { start = q + 8 + p.base; end = its_end window toCome p.at from is long q e i + p.base }
            ∷ packets_from file (its_rest window toCome p.at from is long q e i + p.base))),
        λ u. omega arith,
      )

  abbrev second : ℕ
  second = overlapping p.base (find_from window (from + 1))

  -- both, by their end, and what is left behind them
  unfoldable ending : ℕ → List Packet
  ending k = record { start = start_at p.base from; end = k } ∷ ending_at k second (packets_from file k)

  both : left file p ≡ ending end
  unfolding ending
  both =
      let ends = ends_late window toCome p.at from is long (from + 8) (omega arith) (omega arith) in
      let first : from + 8 + p.base ≡ start_at p.base from = sym (start_at_lem from (omega arith)) in
      left_packets file p none-sought ∙ next_in_it file stands p.at
      ∙ ap (λ (x : Option Next). handed file (next_on p.base x)) (more_packet window toCome p.at from is (omega arith)).next
      ∙ (λ i. record { start = first i; end = ends i + p.base } ∷ (seconds (find_from window (from + 1)) refl).0 i)

  abbrev rest : Places
  rest = record { base = in_file p.base last; at = 0; first = start_at p.base from; second = second }

  then_left : left file rest ≡ ending (devc_or_end file (0 + in_file p.base last))
  unfolding ending
  then_left = let first : start_at p.base from ≡ from + 8 + p.base = start_at_lem from (omega arith) in left_sought file rest (omega arith)

  -- A STEP PAST A PACKET
  pub past_keeps : KeepsLeft file window toCome p (read_past window p from)
  past_keeps =
      let place : last + p.base ≡ 0 + in_file p.base last = omega (arith, in_file_lem file stands small last (omega arith)) in
      let first : start_at p.base from ≡ from + 8 + p.base = start_at_lem from (omega arith) in
      let sought : end ≡ devc_or_end file (0 + in_file p.base last) = sym (ends_in file stands last) ∙ ap (devc_or_end file) place in (
        both ∙ ap ending sought ∙ sym then_left,
        stands_on file small stands (start_at p.base from) second last (omega arith) (λ u. omega arith) (seconds (find_from window (from + 1)) refl).1,
      )
