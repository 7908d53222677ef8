-- A step while the end of packets over what is held is sought: nothing that is left to be told is lost. Assumes nothing.
use Rattle.std.proofs.Common.{Option, Some, None, ◌≡◌, ℕ, ◌+◌, ◌-◌, ◌^◌, ◌<◌, ◌≤◌, max, Bool, true, false, ltb, List, [], ◌∷◌, ◌++◌, map, length, sym, refl, ap, ◌∙◌, append-nil, arith, ltb-false, ltb-true}
use Rattle.search.specs.Search.{find_from, or_end, devc_or_end}
use Rattle.search.proofs.First.{found}
use Rattle.raw_file.specs.declared.Packet.{Packet}
use Rattle.raw_file.specs.Packets.{packets_from}
use Rattle.raw_file.proofs.NextPacket.{devc_or_end_lem, same_end}
use Rattle.raw_file.proofs.Window.{stays, goes_on_late}
use Rattle.window.specs.declared.Places.{Places}
use Rattle.window.specs.Steps.{most_held, last_bytes, in_file, tell_long, read_from, seek_end}
use Rattle.window.specs.Taking.{Told, told_of}
use Rattle.window.proofs.Standing.{ending_at, left, left_packets, left_sought, Stands, reaches, in_file_lem, ends_in}
use Rattle.window.proofs.Tells.{told_left, KeepsLeft, told_long, stands_on}

module _ (file : List ℕ) (small : length file < 2 ^ 64) {window toCome : List ℕ} {p : Places} (stands : Stands file window toCome p) (sought : 0 < p.first) where
  -- the first and the second of them, by their end
  abbrev ending : ℕ → List Packet
  ending end = record { start = p.first; end = end } ∷ ending_at end p.second (packets_from file end)

  -- behind the first the second is left
  second_left : (at : ℕ) → devc_or_end file (at + p.base) ≡ at + p.base
      → ending_at (at + p.base) p.second (packets_from file (at + p.base)) ≡ left file (record { base = p.base; at = at; first = p.second; second = 0 })
  second_left at same = split (ltb 0 p.second) refl
    where
      split : (b : Bool) → ltb 0 p.second ≡ b
          → ending_at (at + p.base) p.second (packets_from file (at + p.base)) ≡ left file (record { base = p.base; at = at; first = p.second; second = 0 })
      split true t =
          rw t
          ((λ i. record { start = p.second; end = sym same i } ∷ packets_from file (sym same i))
          ∙ sym (left_sought file (record { base = p.base; at = at; first = p.second; second = 0 }) (ltb-true 0 p.second t)))
      split false t = rw t (sym (left_packets file (record { base = p.base; at = at; first = p.second; second = 0 }) (ltb-false 0 p.second t)))

  -- THE END IS KNOWN
  tells : (end : ℕ) → devc_or_end (window ++ toCome) p.at ≡ end → p.at ≤ end → end ≤ length window → KeepsLeft file window toCome p (tell_long p end)
  tells end is low high =
      let in_it : devc_or_end file (p.at + p.base) ≡ end + p.base = ends_in file stands p.at ∙ ap (λ k. k + p.base) is in
      let inside : p.at + p.base ≤ length file = omega (arith, reaches file stands, stands.within) in
      let bound : p.at + p.base ≤ devc_or_end file (p.at + p.base) = (devc_or_end_lem file (p.at + p.base) inside).0 in
      let again : devc_or_end file (p.at + p.base) ≡ devc_or_end file (devc_or_end file (p.at + p.base)) =
      same_end file (p.at + p.base) (devc_or_end file (p.at + p.base)) bound (omega arith)
      in
      let same : devc_or_end file (end + p.base) ≡ end + p.base = ap (devc_or_end file) (sym in_it) ∙ sym again ∙ in_it in
      let far : p.first + most_held < p.at + p.base = stands.far sought in
      let place : in_file p.base end ≡ p.base + end = in_file_lem file stands small end high in
      let size : end + p.base - p.first ≡ in_file p.base end - p.first = omega arith in
      let rest : Places = record { base = p.base; at = end; first = p.second; second = 0 } in
      let whole : left file p ≡ record { start = p.first; end = end + p.base } ∷ left file rest =
      left_sought file p sought ∙ ap ending in_it ∙ ap (λ (ps : List Packet). record { start = p.first; end = end + p.base } ∷ ps) (second_left end same)
      in (
        ap (map (told_of file)) whole
            ∙ ap (λ (t : Told). t ∷ told_left file rest) (told_long file p.first (end + p.base) (in_file p.base end - p.first) size (omega arith)),
        record {
          holds = stands.holds;
          inside = stands.inside;
          within = high;
          far = λ u. omega (arith, stands.far_second u);
          far_second = λ u. absurd (omega arith);
        },
      )

  -- IT IS SOUGHT in what is read next
  seeks_on : (from : ℕ) → find_from window p.at ≡ None → from ≡ max p.at (length window - last_bytes) → KeepsLeft file window toCome p (read_from p from)
  seeks_on from none e =
      let low : p.at ≤ from = omega arith in
      let high : from ≤ length window = omega (arith, stands.within) in
      let late : find_from (window ++ toCome) p.at ≡ find_from (window ++ toCome) from = goes_on_late window toCome p.at from none low (omega arith) in
      let place : from + p.base ≡ 0 + in_file p.base from = omega (arith, in_file_lem file stands small from high) in
      let rest : Places = record { base = in_file p.base from; at = 0; first = p.first; second = p.second } in
      let ends : devc_or_end file (p.at + p.base) ≡ devc_or_end file (0 + in_file p.base from) =
      ends_in file stands p.at ∙ ap (λ (f : Option ℕ). or_end f (length (window ++ toCome)) + p.base) late ∙ sym (ends_in file stands from) ∙ ap (devc_or_end file) place
      in (
        left_sought file p sought ∙ ap ending ends ∙ sym (left_sought file rest sought),
        stands_on file small stands p.first p.second from high (λ u. omega (arith, stands.far u)) (λ u. omega (arith, stands.far_second u)),
      )

  -- A STEP
  pub sought_keeps : (more : Bool) → (more ≡ false → toCome ≡ []) → KeepsLeft file window toCome p (seek_end window more p (find_from window p.at))
  sought_keeps more none = split (find_from window p.at) refl more none
    where
      split : (f : Option ℕ) → find_from window p.at ≡ f → (more : Bool) → (more ≡ false → toCome ≡ []) → KeepsLeft file window toCome p (seek_end window more p f)
      split (Some end) e more none =
          let f = found window p.at end e in
          tells end (ap (λ (x : Option ℕ). or_end x (length (window ++ toCome))) (stays window toCome p.at end e)) f.behind (omega (arith, f.room))
      split None e true none = seeks_on (max p.at (length window - last_bytes)) e refl
      split None e false none =
          let all : window ++ toCome ≡ window = ap (λ (l : List ℕ). window ++ l) (none refl) ∙ append-nil window in
          tells (length window) (ap (λ (l : List ℕ). devc_or_end l p.at) all ∙ ap (λ (x : Option ℕ). or_end x (length window)) e) stands.within (omega arith)
