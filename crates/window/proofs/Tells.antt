-- What each step has to keep so that nothing is lost: what was left to be told is what the step tells, and what is left then. Assumes nothing.
use Rattle.std.proofs.Common.{◌≡◌, ℕ, ◌+◌, ◌-◌, ◌^◌, ◌<◌, ◌≤◌, List, [], ◌∷◌, ◌++◌, map, length, take, drop, sym, ap, ◌∙◌, arith, length-drop, drop-drop, le-ltb, lt-ltb}
use lib.Seq.{drop-append-le, take-append-le}
use Rattle.raw_file.specs.declared.Packet.{Packet}
use Rattle.raw_file.specs.Packets.{bytes_in}
use Rattle.window.specs.declared.Places.{Places}
use Rattle.window.specs.declared.Step.{Step}
use Rattle.window.specs.declared.Step.TheVariants.{Held, Long, Read, End}
use Rattle.window.specs.Steps.{most_held, in_file}
use Rattle.window.specs.Taking.{Told, held, long, told_of}
use Rattle.window.proofs.Standing.{left, Stands, in_file_lem, reaches, moves}

module _ (file : List ℕ) where
  -- what is left, as it is to be told
  abbrev pub told_left : Places → List Told
  told_left p = map (told_of file) (left file p)

  -- THE STEP KEEPS what is left
  abbrev pub KeepsLeft : List ℕ → List ℕ → Places → Step → Type 0
  KeepsLeft window toCome p (Held packet start rest) = (told_left p ≡ held start (bytes_in window packet) ∷ told_left rest) × Stands file window toCome rest
  KeepsLeft window toCome p (Long start bytes rest) = (told_left p ≡ long start bytes ∷ told_left rest) × Stands file window toCome rest
  KeepsLeft window toCome p (Read from rest) =
      (left file p ≡ left file rest) × ((read reads : List ℕ) → toCome ≡ read ++ reads → Stands file (drop from window ++ read) reads rest)
  KeepsLeft window toCome p End = left file p ≡ []

  -- a packet over what is held
  pub told_long : (start end bytes : ℕ) → end - start ≡ bytes → most_held < bytes → told_of file (record { start = start; end = end }) ≡ long start bytes
  told_long start end bytes e h = rw (e, lt-ltb most_held bytes h)

  module _ (small : length file < 2 ^ 64) {window toCome : List ℕ} {p : Places} (stands : Stands file window toCome p) where
    -- a packet that is held: its bytes in the window are those in the file
    pub told_held : (packet : Packet) → packet.start ≤ packet.end → packet.end ≤ length window → packet.end - packet.start ≤ most_held
        → told_of file (record { start = packet.start + p.base; end = packet.end + p.base }) ≡ held (in_file p.base packet.start) (bytes_in window packet)
    told_held packet order within h =
        let size : packet.end + p.base - (packet.start + p.base) ≡ packet.end - packet.start = omega arith in
        let place : packet.start + p.base ≡ in_file p.base packet.start = omega (arith, in_file_lem file stands small packet.start (omega arith)) in
        let turn : packet.start + p.base ≡ p.base + packet.start = omega arith in
        let there : drop (packet.start + p.base) file ≡ drop packet.start window ++ toCome =
        ap (λ k. drop k file) turn ∙ sym (drop-drop packet.start p.base file) ∙ ap (drop packet.start) stands.holds
        ∙ drop-append-le packet.start window toCome (omega arith)
        in
        let bytes : take (packet.end - packet.start) (drop (packet.start + p.base) file) ≡ bytes_in window packet =
        ap (take (packet.end - packet.start)) there
        ∙ take-append-le (packet.end - packet.start) (drop packet.start window) toCome (simp length-drop (omega arith))
        in
        rw (size, le-ltb most_held (packet.end - packet.start) h) (λ i. held (place i) (bytes i))

    -- more is read behind the bytes from a place on
    pub stands_on : (first second from : ℕ) → from ≤ length window → (0 < first → first + most_held < from + p.base) → (0 < second → second + most_held < from + p.base)
        → (read reads : List ℕ) → toCome ≡ read ++ reads
        → Stands file (drop from window ++ read) reads (record { base = in_file p.base from; at = 0; first = first; second = second })
    stands_on first second from h f s read reads e =
        let place : in_file p.base from ≡ p.base + from = in_file_lem file stands small from h in
        record {
          holds = ap (λ k. drop k file) place ∙ moves file stands from h read reads e;
          inside = omega (arith, reaches file stands);
          within = omega arith;
          far = λ u. omega (arith, f u);
          far_second = λ u. omega (arith, s u);
        }
