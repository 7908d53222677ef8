-- A step that reads on: there is one only where more is to come, and of the window no more bytes are kept than say that a packet is over what is
-- held, so that a buffer of so many and of one read has room. Assumes nothing.
use Rattle.std.proofs.Common.{Option, Some, None, ◌≡◌, ℕ, ◌+◌, ◌-◌, ◌≤◌, max, Bool, true, false, cond, ltb, List, length, refl, arith, ltb-false}
use Rattle.search.specs.Search.{find_from}
use Rattle.raw_file.specs.declared.Packet.{Packet}
use Rattle.raw_file.specs.declared.InWindow.{InWindow}
use Rattle.raw_file.specs.declared.InWindow.TheVariants as in_window
use Rattle.raw_file.specs.Window.{in_window_of}
use Rattle.raw_file.proofs.Stream.{not_more}
use Rattle.window.specs.declared.Places.{Places}
use Rattle.window.specs.declared.Step.TheVariants.{Held, Long, Read}
use Rattle.window.specs.Steps.{most_held, last_bytes, over_held, in_file, cut_from, read_from, tell_packet, read_past, tell_next, seek_end, next_step}

module _ (window : List ℕ) (p : Places) (from : ℕ) (rest : Places) where
  -- a packet that is told is no read
  not_told : (packet : Packet) (at : ℕ) → tell_packet p packet at ≡ Read from rest → ⊥
  not_told packet at e = split (ltb most_held (packet.end - packet.start)) e
    where
      split : (b : Bool) → cond b (Long (in_file p.base packet.start) (packet.end - packet.start) (cut_from p at)) (Held packet (in_file p.base packet.start) (cut_from p at)) ≡ Read from rest → ⊥
      split true e = let z : ◌≡◌ {A = ℕ} 0 1 = cc in omega arith
      split false e = let z : ◌≡◌ {A = ℕ} 0 1 = cc in omega arith

  -- WITH NOTHING MORE TO COME nothing is read
  pub no_read_at_the_end : next_step window false p ≡ Read from rest → ⊥
  unfolding next_step
  no_read_at_the_end e = split (ltb 0 p.first) (find_from window p.at) (in_window_of window false p.at) refl e
    where
      split : (b : Bool) (f : Option ℕ) (x : InWindow) → in_window_of window false p.at ≡ x → cond b (seek_end window false p f) (tell_next window p x) ≡ Read from rest → ⊥
      split true (Some end) x i e = let z : ◌≡◌ {A = ℕ} 0 1 = cc in omega arith
      split true None x i e = let z : ◌≡◌ {A = ℕ} 0 1 = cc in omega arith
      split false f (in_window.Next next) i e = not_told next.packet next.rest.at e
      split false f (in_window.More at) i e = not_more window p.at at i
      split false f in_window.End i e = let z : ◌≡◌ {A = ℕ} 0 1 = cc in omega arith

  -- THE BYTES THAT ARE KEPT are so few
  pub few_kept : (more : Bool) → next_step window more p ≡ Read from rest → length window ≤ from + over_held
  unfolding next_step
  few_kept more e = split more (ltb 0 p.first) (find_from window p.at) (in_window_of window more p.at) e
    where
      wanted : (at : ℕ) (b : Bool) → ltb (at + over_held) (length window) ≡ b → cond b (read_past window p at) (read_from p at) ≡ Read from rest → length window ≤ from + over_held
      wanted at true t e = let q : length window - last_bytes ≡ from = cc in omega arith
      wanted at false t e = let q : at ≡ from = cc in omega (arith, ltb-false (at + over_held) (length window) t)

      split : (more b : Bool) (f : Option ℕ) (x : InWindow) → cond b (seek_end window more p f) (tell_next window p x) ≡ Read from rest → length window ≤ from + over_held
      split more true (Some end) x e = let z : ◌≡◌ {A = ℕ} 0 1 = cc in absurd (omega arith)
      split true true None x e = let q : max p.at (length window - last_bytes) ≡ from = cc in omega arith
      split false true None x e = let z : ◌≡◌ {A = ℕ} 0 1 = cc in absurd (omega arith)
      split more false f (in_window.Next next) e = absurd (not_told next.packet next.rest.at e)
      split more false f (in_window.More at) e = wanted at (ltb (at + over_held) (length window)) refl e
      split more false f in_window.End e = let z : ◌≡◌ {A = ℕ} 0 1 = cc in absurd (omega arith)
