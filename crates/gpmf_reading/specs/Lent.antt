-- What calls that write into lent numbers promise to a caller in another language: the answer as a record of numbers, and what was lent
-- afterwards, as the calls themselves promise it. Assumes nothing: these are definitions.
use Rattle.std.specs.Prelude.{ℕ, ◌≡◌, Bool, List, length}
use Rattle.reading.specs.Walk.{Outcome, room_of}
use Rattle.reading.specs.Answer.{lent}
use Rattle.walk.specs.Metadata.{told}
use Rattle.raw_file.specs.Packets.{next_packet}
use Rattle.raw_file.specs.Window.{in_window_of}
use Rattle.raw_metadata.specs.Readings.{metadata_of, lent_for}
use Rattle.raw_metadata.specs.Window.{metadata_in, lent_in}
use Rattle.reading_answers.specs.declared.MetadataAnswer.{MetadataAnswer}
use Rattle.reading_answers.specs.declared.PacketMetadataAnswer.{PacketMetadataAnswer}
use Rattle.reading_answers.specs.Answers.{of_metadata, of_next_metadata, of_metadata_in_window}

-- the reading of a payload
pub record ReadAs (outcome : Outcome) (old : List ℕ) (answer : MetadataAnswer) (new : List ℕ) : Type 0 where
  pub is : answer ≡ of_metadata (told outcome)
  pub rows : new ≡ lent outcome old

-- the next packet of a file, read
pub record ReadNextAs (forced : Bool) (file : List ℕ) (at : ℕ) (old : List ℕ) (answer : PacketMetadataAnswer) (new : List ℕ) : Type 0 where
  pub is : answer ≡ of_next_metadata (metadata_of forced file (room_of (length old)) (next_packet file at))
  pub rows : new ≡ lent_for forced file old (next_packet file at)

-- the same in a window of a file
pub record ReadInWindowAs (forced : Bool) (bytes : List ℕ) (more : Bool) (at : ℕ) (old : List ℕ) (answer : PacketMetadataAnswer) (new : List ℕ) : Type 0 where
  pub is : answer ≡ of_metadata_in_window (metadata_in forced bytes (room_of (length old)) (in_window_of bytes more at))
  pub rows : new ≡ lent_in forced bytes old (in_window_of bytes more at)
