-- THE LAW of a file that is read piece by piece: whatever the pieces are, the steps tell the packets of the file, all of them and in order, each by its
-- start in the file, and by its bytes or, where they are more than are held, by how many they are. Assumes nothing.
use Rattle.std.proofs.Common.{◌≡◌, ℕ, zero, suc, ◌^◌, ◌<◌, ◌≤◌, Bool, true, false, cond, ltb, List, [], ◌∷◌, ◌++◌, map, length, drop, sym, refl, ap, ◌∙◌, subst, arith, ltb-false, ltb-true}
use mathlib.Core.List.{flatten}
use Rattle.search.specs.Search.{find_from}
use Rattle.raw_file.specs.Packets.{bytes_in, packets_of}
use Rattle.raw_file.specs.Window.{in_window_of, any_left}
use Rattle.raw_file.proofs.Stream.{none_left}
use Rattle.window.specs.declared.Places.{Places}
use Rattle.window.specs.declared.Step.{Step}
use Rattle.window.specs.declared.Step.TheVariants.{Held, Long, Read, End}
use Rattle.window.specs.Steps.{tell_next, seek_end, next_step}
use Rattle.window.specs.Taking.{Told, held, long, told_of, at_start, Takes, ends, tells_held, tells_long, reads_on}
use Rattle.window.proofs.Standing.{left_packets, Stands}
use Rattle.window.proofs.Tells.{told_left, KeepsLeft}
use Rattle.window.proofs.Sought.{sought_keeps}
use Rattle.window.proofs.Cutting.{cut_keeps}
use Rattle.window.proofs.Reading.{no_read_at_the_end}

module _ (file : List ℕ) (small : length file < 2 ^ 64) where
  -- A STEP KEEPS what is left to be told
  pub step_keeps : {window toCome : List ℕ} {p : Places} → Stands file window toCome p → (more : Bool) → (more ≡ false → toCome ≡ [])
      → KeepsLeft file window toCome p (next_step window more p)
  unfolding next_step
  step_keeps {window} {toCome} {p} stands more none = split (ltb 0 p.first) refl
    where
      split : (b : Bool) → ltb 0 p.first ≡ b
          → KeepsLeft file window toCome p (cond b (seek_end window more p (find_from window p.at)) (tell_next window p (in_window_of window more p.at)))
      split true t = sought_keeps file small stands (ltb-true _ _ t) more none
      split false t = cut_keeps file small stands (ltb-false _ _ t) more none

  -- a step that is known
  known_keeps : {window toCome : List ℕ} {p : Places} (more : Bool) (step : Step) → Stands file window toCome p → (more ≡ false → toCome ≡ [])
      → next_step window more p ≡ step → KeepsLeft file window toCome p step
  known_keeps {window} {toCome} {p} more step stands none e = subst (λ (s : Step). KeepsLeft file window toCome p s) e (step_keeps stands more none)

  -- ALL THE STEPS
  pub steps_tell : {window : List ℕ} {p : Places} {reads : List (List ℕ)} {told : List Told} → Takes window p reads told → Stands file window (flatten reads) p
      → told ≡ told_left file p
  unfolding flatten
  steps_tell {reads = reads} (ends e) stands = sym (ap (map (told_of file)) (known_keeps (any_left reads) _ stands (none_left reads) e))
  steps_tell {window} {reads = reads} (tells_held {packet = packet} {start = start} e more) stands =
      let k = known_keeps (any_left reads) _ stands (none_left reads) e in
      ap (λ (ts : List Told). held start (bytes_in window packet) ∷ ts) (steps_tell more k.1) ∙ sym k.0
  steps_tell {reads = reads} (tells_long {start = start} {bytes = bytes} e more) stands =
      let k = known_keeps (any_left reads) _ stands (none_left reads) e in
      ap (λ (ts : List Told). long start bytes ∷ ts) (steps_tell more k.1) ∙ sym k.0
  steps_tell {reads = read ∷ reads} (reads_on e more) stands =
      let k = known_keeps true _ stands (none_left (read ∷ reads)) e in
      steps_tell more (k.1 read (flatten reads) refl) ∙ sym (ap (map (told_of file)) k.0)

  -- ---- there are such steps

  -- what a read comes to
  abbrev Reading : List (List ℕ) → Type 0
  Reading reads =
      (window : List ℕ) (p : Places) (from : ℕ) (rest : Places) → next_step window (any_left reads) p ≡ Read from rest
      → KeepsLeft file window (flatten reads) p (Read from rest) → Takes window p reads (told_left file p)

  -- one step, and those behind it, which have less to tell
  one_step : (reads : List (List ℕ)) → Reading reads → (n : ℕ)
      → ((w : List ℕ) (q : Places) → Stands file w (flatten reads) q → length (told_left file q) < n → Takes w q reads (told_left file q)) → (window : List ℕ) (p : Places)
      → length (told_left file p) ≤ n → (step : Step) → next_step window (any_left reads) p ≡ step → KeepsLeft file window (flatten reads) p step
      → Takes window p reads (told_left file p)
  one_step reads on n later window p h (Held packet start rest) e k =
      subst (λ (ts : List Told). Takes window p reads ts) (sym k.0) (tells_held e (later window rest k.1 (omega (arith, ap length k.0))))
  one_step reads on n later window p h (Long start bytes rest) e k =
      subst (λ (ts : List Told). Takes window p reads ts) (sym k.0) (tells_long e (later window rest k.1 (omega (arith, ap length k.0))))
  one_step reads on n later window p h (Read from rest) e k = on window p from rest e k
  one_step reads on n later window p h End e k = subst (λ (ts : List Told). Takes window p reads ts) (sym (ap (map (told_of file)) k)) (ends e)

  all_steps : (reads : List (List ℕ)) → Reading reads → (n : ℕ) (window : List ℕ) (p : Places) → Stands file window (flatten reads) p → length (told_left file p) < n
      → Takes window p reads (told_left file p)
  all_steps reads on zero window p stands h = absurd (omega arith)
  all_steps reads on (suc n) window p stands h =
      one_step reads on n (all_steps reads on n) window p (omega arith) (next_step window (any_left reads) p) refl (step_keeps stands (any_left reads) (none_left reads))

  each_read : (reads : List (List ℕ)) → Reading reads
  unfolding flatten
  each_read [] window p from rest e k = absurd (no_read_at_the_end window p from rest e)
  each_read (read ∷ reads) window p from rest e k =
      subst (λ (ts : List Told). Takes window p (read ∷ reads) ts) (sym (ap (map (told_of file)) k.0))
      (reads_on e
      (all_steps reads (each_read reads) (suc (length (told_left file rest))) (drop from window ++ read) rest (k.1 read (flatten reads) refl) (omega arith)))

  -- ALL THAT IS LEFT IS TOLD
  pub steps_end : (reads : List (List ℕ)) {window : List ℕ} {p : Places} → Stands file window (flatten reads) p → Takes window p reads (told_left file p)
  steps_end reads {window} {p} stands = all_steps reads (each_read reads) (suc (length (told_left file p))) window p stands (omega arith)

-- at the start nothing is held
starts : (file : List ℕ) → Stands file [] file at_start
starts file = record { holds = refl; inside = omega arith; within = omega arith; far = λ u. absurd (omega arith); far_second = λ u. absurd (omega arith) }

-- what is told of each packet of a file
abbrev pub packets_told : List ℕ → List Told
packets_told file = map (told_of file) (packets_of file)

left_at_the_start : (file : List ℕ) → told_left file at_start ≡ packets_told file
left_at_the_start file = ap (map (told_of file)) (left_packets file at_start (omega arith))

-- THE LAW: what the steps from the start tell are the packets of the file that was read
pub only_packets : (reads : List (List ℕ)) (told : List Told) → length (flatten reads) < 2 ^ 64 → Takes [] at_start reads told → told ≡ packets_told (flatten reads)
only_packets reads told small takes = steps_tell (flatten reads) small takes (starts (flatten reads)) ∙ left_at_the_start (flatten reads)

-- AND THERE ARE SUCH STEPS, whatever the pieces are
pub all_packets : (reads : List (List ℕ)) → length (flatten reads) < 2 ^ 64 → Takes [] at_start reads (packets_told (flatten reads))
all_packets reads small =
    subst (λ (ts : List Told). Takes [] at_start reads ts) (left_at_the_start (flatten reads)) (steps_end (flatten reads) small reads (starts (flatten reads)))
