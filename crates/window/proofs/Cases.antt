-- Steps computed by the definitions: a packet is told where its end is known, else more is read; and the end of two packets is sought.
-- Assumes nothing.
use Rattle.std.proofs.Common.{◌≡◌, ℕ, Bool, true, false, List, [], ◌∷◌, map, refl}
use Prim.Native.String.{String}
use Rattle.foundation.specs.Text.{characters}
use Rattle.search.specs.Search.{begins, first_in, find_from}
use Rattle.raw_file.specs.Packets.{next_packet}
use Rattle.raw_file.specs.Window.{in_window_of}
use Rattle.window.specs.declared.Places.{Places}
use Rattle.window.specs.declared.Step.{Step}
use Rattle.window.specs.declared.Step.TheVariants.{Held, Long, Read, End}
use Rattle.window.specs.Steps.{next_step}

-- at a place of the file, of the window, and with two packets whose end is sought
abbrev at : ℕ → ℕ → ℕ → ℕ → Places
at base place first second = record { base = base; at = place; first = first; second = second }

abbrev step : String → Bool → Places → Step
step bytes more p = next_step (characters bytes) more p

abbrev steps : List (Step × Step)
steps =
    (step "DEVC12345" true (at 0 0 0 0), Read 0 (at 0 0 0 0))
    ∷ (step "DEVC12345" false (at 100 0 0 0), Held (record { start = 8; end = 9 }) 108 (at 100 9 0 0))
    ∷ (step "DEVC12345DEVC" true (at 100 0 0 0), Held (record { start = 8; end = 9 }) 108 (at 100 9 0 0))
    ∷ (step "0123456789DEV" true (at 100 0 0 0), Read 5 (at 105 0 0 0))
    ∷ (step "0123456789" false (at 100 0 0 0), End)
    -- the end of the packets that start at 8 and at 12 is sought
    ∷ (step "0123456789" true (at 70000 0 8 12), Read 7 (at 70007 0 8 12))
    ∷ (step "789DEVC" true (at 70007 0 8 12), Long 8 70002 (at 70007 3 12 0))
    ∷ (step "789DEVC" true (at 70007 3 12 0), Long 12 69998 (at 70007 3 0 0))
    ∷ (step "0123456789" false (at 70000 0 8 0), Long 8 70002 (at 70000 10 0 0))
    ∷ []

pub are_steps : map (λ (c : Step × Step). c.0) steps ≡ map (λ (c : Step × Step). c.1) steps
unfolding next_step in_window_of next_packet find_from first_in begins
are_steps = refl
