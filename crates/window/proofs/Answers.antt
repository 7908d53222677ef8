-- The next step by the cases that the code goes by. Assumes nothing.
use Rattle.std.proofs.Common.{Option, Some, None, ◌≡◌, ℕ, ◌+◌, ◌-◌, ◌<◌, ◌≤◌, max, Bool, true, false, cond, ltb, List, length, sym, ap, ◌∙◌, arith, le-ltb, lt-ltb}
use Rattle.search.specs.Search.{find_from}
use Rattle.raw_file.specs.Window.{in_window_of}
use Rattle.raw_file.specs.declared.Packet.{Packet}
use Rattle.raw_file.specs.declared.InWindow.{InWindow}
use Rattle.window.specs.declared.Places.{Places}
use Rattle.window.specs.declared.Step.{Step}
use Rattle.window.specs.declared.Step.TheVariants.{Held, Long, Read}
use Rattle.window.specs.Steps.{most_held, last_bytes, over_held, in_file, start_at, cut_from, read_from, tell_packet, overlapping, read_past, tell_next, tell_long, seek_end, next_step}

-- the code wraps at the DEVC and again at the start of its packet
wrapped : (base devc : ℕ) → in_file (in_file base devc) 8 ≡ start_at base devc
wrapped base devc = omega arith

pub overlaps : (base : ℕ) (found : Option ℕ) (at x y : ℕ) → found ≡ Some at → x ≡ in_file base at → y ≡ in_file x 8 → y ≡ overlapping base found
overlaps base found at x y is e f = f ∙ ap (λ k. in_file k 8) e ∙ wrapped base at ∙ sym (ap (overlapping base) is)

module _ (p : Places) where
  pub reads_from : (from base : ℕ) → base ≡ in_file p.base from → Read from (record { base = base; at = 0; first = p.first; second = p.second }) ≡ read_from p from
  reads_from from base e = λ i. Read from (record { base = e i; at = 0; first = p.first; second = p.second })

  -- a packet that is known, by its length
  module _ (packet : Packet) (rest start bytes : ℕ) (starts : start ≡ in_file p.base packet.start) (long : bytes ≡ packet.end - packet.start) where
    pub tells_long_lem : most_held < bytes → Long start bytes (cut_from p rest) ≡ tell_packet p packet rest
    tells_long_lem h = rw (← long, lt-ltb most_held bytes h) (λ i. Long (starts i) bytes (cut_from p rest))

    pub tells_held_lem : bytes ≤ most_held → Held packet start (cut_from p rest) ≡ tell_packet p packet rest
    tells_held_lem h = rw (← long, le-ltb most_held bytes h) (λ i. Held packet (starts i) (cut_from p rest))

  -- the end that was sought
  pub tells_sought : (end place bytes : ℕ) → place ≡ in_file p.base end → bytes ≡ place - p.first
      → Long p.first bytes (record { base = p.base; at = end; first = p.second; second = 0 }) ≡ tell_long p end
  tells_sought end place bytes e f = λ i. Long p.first ((f ∙ ap (λ k. k - p.first) e) i) (record { base = p.base; at = end; first = p.second; second = 0 })

  module _ (bytes : List ℕ) where
    -- more is wanted
    module _ (from : ℕ) (answer : Step) where
      pub reads_past : from + over_held < length bytes → answer ≡ read_past bytes p from
          → answer ≡ cond (ltb (from + over_held) (length bytes)) (read_past bytes p from) (read_from p from)
      reads_past h e = rw (lt-ltb (from + over_held) (length bytes) h) e

      pub reads_on_lem : length bytes ≤ from + over_held → answer ≡ read_from p from
          → answer ≡ cond (ltb (from + over_held) (length bytes)) (read_past bytes p from) (read_from p from)
      reads_on_lem h e = rw (le-ltb (from + over_held) (length bytes) h) e

      pub seeks_both : (middle first second : ℕ) (found : Option ℕ) → middle ≡ in_file p.base from → first ≡ in_file middle 8 → found ≡ find_from bytes (from + 1)
          → second ≡ overlapping p.base found → answer ≡ read_from (record { base = p.base; at = p.at; first = first; second = second }) (length bytes - last_bytes)
          → answer ≡ read_past bytes p from
      seeks_both middle first second found m f is s e =
          e ∙ (λ i. read_from (record { base = p.base; at = p.at; first = (f ∙ ap (λ k. in_file k 8) m ∙ wrapped p.base from) i; second = (s ∙ ap (overlapping p.base) is) i }) (length bytes - last_bytes))

    module _ (more : Bool) (answer : Step) where
      -- an end is sought
      pub seeks : (found : Option ℕ) → found ≡ find_from bytes p.at → (known : Option ℕ) → found ≡ known → answer ≡ seek_end bytes more p known
          → answer ≡ seek_end bytes more p (find_from bytes p.at)
      seeks found is known k e = e ∙ ap (seek_end bytes more p) (sym k ∙ is)

      -- in what is read next
      pub seeks_on : (found : Option ℕ) (from : ℕ) → found ≡ find_from bytes p.at → found ≡ None → more ≡ true → from ≡ max p.at (length bytes - last_bytes)
          → answer ≡ read_from p from → answer ≡ seek_end bytes more p (find_from bytes p.at)
      seeks_on found from is k m f e =
          e ∙ ap (read_from p) f ∙ ap (λ (b : Bool). seek_end bytes b p None) (sym m) ∙ ap (seek_end bytes more p) (sym k ∙ is)

      -- the end of the file
      pub seeks_last : (found : Option ℕ) → found ≡ find_from bytes p.at → found ≡ None → more ≡ false → answer ≡ tell_long p (length bytes)
          → answer ≡ seek_end bytes more p (find_from bytes p.at)
      seeks_last found is k m e = e ∙ ap (λ (b : Bool). seek_end bytes b p None) (sym m) ∙ ap (seek_end bytes more p) (sym k ∙ is)

      pub next_sought : 0 < p.first → answer ≡ seek_end bytes more p (find_from bytes p.at) → answer ≡ next_step bytes more p
      unfolding next_step
      next_sought h e = rw (lt-ltb 0 p.first h) e

      -- none is
      pub next_told : (at : ℕ) (told known : InWindow) → p.first ≤ 0 → at ≡ p.at → told ≡ in_window_of bytes more at → told ≡ known → answer ≡ tell_next bytes p known
          → answer ≡ next_step bytes more p
      unfolding next_step
      next_told at told known h a t k e =
          rw (le-ltb 0 p.first h) (e ∙ ap (tell_next bytes p) (sym k ∙ t ∙ ap (in_window_of bytes more) a))
