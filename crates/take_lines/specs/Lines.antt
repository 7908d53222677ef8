-- The lines of a take: for each packet of a raw file one, and the counts at the end. Document 01, Cases, 12, has the listing that stands behind a packet's line.
-- Assumes nothing: these are definitions.
use Rattle.std.specs.Prelude.{ℕ, ◌≡◌, Bool, true, false, List, [], ◌∷◌, ◌++◌}
use Rattle.foundation.specs.Text.{characters}
use Rattle.reading.specs.Refusal.{too_long}
use Rattle.reading.specs.Walk.{accepted, refused}
use Rattle.numerals.specs.Numerals.{decimal}
use Rattle.listing.specs.Listing.{listing}
use Rattle.listing_line.specs.Lines.{laid_lines, behind_lines}

-- ---- the parts of what is printed, one behind the other

-- a line of three numbers, each behind its word
abbrev pub counts_line : List ℕ → ℕ → List ℕ → ℕ → List ℕ → ℕ → List (List ℕ)
counts_line one n two m three k = one ∷ decimal n ∷ two ∷ decimal m ∷ three ∷ decimal k ∷ characters "\n" ∷ []

-- `packet K at P bytes N`: its number from 1, and its start and its length in the file
abbrev pub packet_line : ℕ → ℕ → ℕ → List (List ℕ)
packet_line number place bytes = counts_line (characters "packet ") number (characters " at ") place (characters " bytes ") bytes

-- `packets A read B refused C`
abbrev pub totals_line : ℕ → ℕ → ℕ → List (List ℕ)
totals_line packets read not-read = counts_line (characters "packets ") packets (characters " read ") read (characters " refused ") not-read

-- A PACKET OVER WHAT IS HELD, by its length: `refused 1 at 0`, before which nothing stands
abbrev pub long_packet : Bool → ℕ → ℕ → ℕ → List (List ℕ)
long_packet true number place bytes = []
long_packet false number place bytes = packet_line number place bytes ++ (listing (refused too_long 0) ++ (characters "front " ∷ listing (accepted [] 0)))

-- ---- what is promised

-- texts laid one behind the other: the place that is answered, and the buffer
pub record LaysAll (texts : List (List ℕ)) (out : List ℕ) (at answer : ℕ) (after : List ℕ) : Type 0 where
  pub is : answer ≡ behind_lines texts out at
  pub leaves : after ≡ laid_lines texts out at
