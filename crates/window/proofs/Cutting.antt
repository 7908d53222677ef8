-- A step while no end is sought: a packet is told, or more is read, and nothing that is left to be told is lost. Assumes nothing.
use Rattle.raw_file.specs.Packets.{going}
use Rattle.std.proofs.Common.{◌≡◌, ℕ, ◌+◌, ◌-◌, ◌^◌, ◌<◌, ◌≤◌, Bool, true, false, cond, ltb, List, [], ◌∷◌, map, length, sym, refl, ap, ◌∙◌, arith, ltb-false, ltb-true}
use Rattle.raw_file.specs.declared.Packet.{Packet}
use Rattle.raw_file.specs.declared.Packets.{Packets}
use Rattle.raw_file.specs.declared.InWindow.{InWindow}
use Rattle.raw_file.specs.declared.InWindow.TheVariants as in_window
use Rattle.raw_file.specs.Packets.{packets_from}
use Rattle.raw_file.specs.Window.{in_window_of}
use Rattle.raw_file.proofs.NextPacket.{handed_out_lem}
use Rattle.raw_file.proofs.Window.{known_is}
use Rattle.raw_file.proofs.Moved.{packet_on}
use Rattle.raw_file.proofs.Stream.{told_and_left, not_more, more_within}
use Rattle.window.specs.declared.Places.{Places}
use Rattle.window.specs.declared.Step.TheVariants.{Held, Long}
use Rattle.window.specs.Steps.{most_held, over_held, in_file, cut_from, read_from, tell_packet, read_past, tell_next}
use Rattle.window.specs.Taking.{Told, long, told_of}
use Rattle.window.proofs.Standing.{left, left_packets, Stands, in_file_lem, told_in_lem}
use Rattle.window.proofs.Tells.{told_left, KeepsLeft, told_long, told_held, stands_on}
use Rattle.window.proofs.Past.{past_keeps}

module _ (file : List ℕ) (small : length file < 2 ^ 64) {window toCome : List ℕ} {p : Places} (stands : Stands file window toCome p) (none-sought : p.first ≤ 0) where
  -- A PACKET IS TOLD
  packet_keeps : (more : Bool) → (more ≡ false → toCome ≡ []) → (packet : Packet) (rest : Packets) → in_window_of window more p.at ≡ in_window.Next (going packet rest)
      → KeepsLeft file window toCome p (tell_packet p packet rest.at)
  packet_keeps more none packet rest is = by_length (ltb most_held (packet.end - packet.start)) refl
    where
      first : left file p ≡ packet_on p.base packet ∷ left file (cut_from p rest.at)
      first =
          left_packets file p none-sought ∙ told_in_lem file stands more none ∙ ap (told_and_left file p.base) is
          ∙ ap (λ (ps : List Packet). packet_on p.base packet ∷ ps) (sym (left_packets file (cut_from p rest.at) (omega arith)))

      by_length : (b : Bool) → ltb most_held (packet.end - packet.start) ≡ b
          → KeepsLeft file window toCome p
          (cond b (Long (in_file p.base packet.start) (packet.end - packet.start) (cut_from p rest.at))
          (Held packet (in_file p.base packet.start) (cut_from p rest.at)))
      by_length true t =
          let h = handed_out_lem window p.at packet rest (known_is window p.at more packet rest is).next in
          let size : packet.end + p.base - (packet.start + p.base) ≡ packet.end - packet.start = omega arith in
          let place : packet.start + p.base ≡ in_file p.base packet.start = omega (arith, in_file_lem file stands small packet.start (omega (arith, h.order, h.within))) in (
            ap (map (told_of file)) first
                ∙ ap (λ (x : Told). x ∷ told_left file (cut_from p rest.at))
                (told_long file (packet.start + p.base) (packet.end + p.base) (packet.end - packet.start) size (ltb-true _ _ t)
                ∙ ap (λ k. long k (packet.end - packet.start)) place),
            record { holds = stands.holds; inside = stands.inside; within = h.rest_within; far = λ u. absurd (omega arith); far_second = λ u. absurd (omega arith) },
          )
      by_length false t =
          let h = handed_out_lem window p.at packet rest (known_is window p.at more packet rest is).next in (
            ap (map (told_of file)) first
                ∙ ap (λ (x : Told). x ∷ told_left file (cut_from p rest.at)) (told_held file small stands packet h.order h.within (ltb-false _ _ t)),
            record { holds = stands.holds; inside = stands.inside; within = h.rest_within; far = λ u. absurd (omega arith); far_second = λ u. absurd (omega arith) },
          )

  -- MORE IS READ from a place on
  read_keeps : (more : Bool) → (more ≡ false → toCome ≡ []) → (from : ℕ) → in_window_of window more p.at ≡ in_window.More from → KeepsLeft file window toCome p (read_from p from)
  read_keeps more none from is =
      let low : p.at ≤ from = (more_within window p.at more from stands.within is).0 in
      let high : from ≤ length window = (more_within window p.at more from stands.within is).1 in
      let rest : Places = record { base = in_file p.base from; at = 0; first = p.first; second = p.second } in
      let place : from + p.base ≡ 0 + in_file p.base from = omega (arith, in_file_lem file stands small from high) in (
        left_packets file p none-sought ∙ told_in_lem file stands more none ∙ ap (told_and_left file p.base) is ∙ ap (packets_from file) place
            ∙ sym (left_packets file rest none-sought),
        stands_on file small stands p.first p.second from high (λ u. absurd (omega arith)) (λ u. omega (arith, stands.far_second u)),
      )

  -- A STEP
  pub cut_keeps : (more : Bool) → (more ≡ false → toCome ≡ []) → KeepsLeft file window toCome p (tell_next window p (in_window_of window more p.at))
  cut_keeps more none = split more none (in_window_of window more p.at) refl
    where
      wanted : (more : Bool) → (more ≡ false → toCome ≡ []) → (from : ℕ) → in_window_of window more p.at ≡ in_window.More from → (b : Bool)
          → ltb (from + over_held) (length window) ≡ b → KeepsLeft file window toCome p (cond b (read_past window p from) (read_from p from))
      wanted true none from is true t = past_keeps file small stands none-sought from is (ltb-true _ _ t)
      wanted false none from is true t = absurd (not_more window p.at from is)
      wanted more none from is false t = read_keeps more none from is

      split : (more : Bool) → (more ≡ false → toCome ≡ []) → (x : InWindow) → in_window_of window more p.at ≡ x → KeepsLeft file window toCome p (tell_next window p x)
      split more none (in_window.Next next) is = packet_keeps more none next.packet next.rest is
      split more none (in_window.More from) is = wanted more none from is (ltb (from + over_held) (length window)) refl
      split more none in_window.End is = left_packets file p none-sought ∙ told_in_lem file stands more none ∙ ap (told_and_left file p.base) is
