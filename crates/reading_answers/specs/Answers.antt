-- What a row, a reading and a packet are told as to a caller in another language: a record of numbers, of which those that the answer does not have
-- are 0 (document 01, Refusal numbers: "A refusal returns its number, a place and zeros"). Assumes nothing: these are definitions.
use Rattle.std.specs.Prelude.{ℕ, cond, eqb, Option, Some, None, Result, Ok, Err}
use Rattle.foundation.specs.Refusals.{refuse}
use Rattle.foundation.specs.declared.refusal.Refusal.{Refusal}
use Rattle.walk.specs.declared.Metadata.{Metadata}
use Rattle.raw_file.specs.declared.Packet.{Packet}
use Rattle.raw_file.specs.declared.Packets.{Packets}
use Rattle.raw_file.specs.declared.Next.{Next}
use Rattle.raw_file.specs.declared.InWindow.{InWindow}
use Rattle.raw_file.specs.declared.InWindow.TheVariants as window
use Rattle.raw_metadata.specs.declared.NextMetadata.{NextMetadata}
use Rattle.raw_metadata.specs.declared.MetadataInWindow.{MetadataInWindow}
use Rattle.raw_metadata.specs.declared.MetadataInWindow.TheVariants as window-metadata
use Rattle.rows.specs.declared.Row.{Row}
use Rattle.answer_kinds.specs.Kinds.{refused, is, nothing, more}
use Rattle.reading_answers.specs.declared.RowAnswer.{RowAnswer}
use Rattle.reading_answers.specs.declared.MetadataAnswer.{MetadataAnswer}
use Rattle.reading_answers.specs.declared.PacketAnswer.{PacketAnswer}
use Rattle.reading_answers.specs.declared.PacketMetadataAnswer.{PacketMetadataAnswer}

-- ---- a row

-- the row of an answer that has none
abbrev pub no_row : Row
no_row = record { place = 0; group_kind = 0; group_key = 0; tag = 0; key = 0; shape = 0; type_place = 0; depth = 0 }

-- an answer that has a row
abbrev pub row : ℕ → Row → RowAnswer
row kind r = record { kind = kind; number = 0; place = 0; row = r }

-- the n-th row, or none there
abbrev pub of_row_at : Option Row → RowAnswer
of_row_at (Some r) = row is r
of_row_at None = row nothing no_row

-- ---- a reading

-- an answer that has counts of rows and headers
abbrev pub metadata : ℕ → ℕ → ℕ → ℕ → ℕ → MetadataAnswer
metadata kind number place rows headers = record { kind = kind; number = number; place = place; rows = rows; headers = headers }

-- the reading of a payload
abbrev pub of_metadata : Result Metadata Refusal → MetadataAnswer
of_metadata (Ok m) = metadata is 0 0 m.rows m.headers
of_metadata (Err r) = metadata refused r.number r.place 0 0

-- the same back: what is not there is refused
unfoldable pub to_metadata : MetadataAnswer → Result Metadata Refusal
to_metadata a = cond (eqb a.kind is) (Ok (record { rows = a.rows; headers = a.headers })) (refuse a.number a.place)

-- ---- packets of a raw file

-- the packet of an answer that has none
abbrev pub no_packet : Packet
no_packet = record { start = 0; end = 0 }

-- the cursor of an answer that has none
abbrev pub no_rest : Packets
no_rest = record { at = 0 }

-- an answer that has a packet, and the cursor behind it
abbrev pub packet : ℕ → ℕ → Packet → Packets → PacketAnswer
packet kind place p rest = record { kind = kind; number = 0; place = place; packet = p; rest = rest }

-- the next packet of a file
abbrev pub of_next_packet : Option Next → PacketAnswer
of_next_packet (Some next) = packet is 0 next.packet next.rest
of_next_packet None = packet nothing 0 no_packet no_rest

-- more of the file is wanted, from a place on
abbrev pub of_in_window : InWindow → PacketAnswer
of_in_window (window.Next next) = packet is 0 next.packet next.rest
of_in_window (window.More from) = packet more from no_packet no_rest
of_in_window window.End = packet nothing 0 no_packet no_rest

-- ---- packets of a raw file with their readings

-- the reading of an answer that has none
abbrev pub no_metadata : MetadataAnswer
no_metadata = metadata refused 0 0 0 0

-- an answer that has a packet, its reading, and the cursor behind it
abbrev pub packet_read : ℕ → ℕ → ℕ → Packet → MetadataAnswer → Packets → PacketMetadataAnswer
packet_read kind number place p reading rest = record { kind = kind; number = number; place = place; packet = p; metadata = reading; rest = rest }

-- the next packet of a file, read
abbrev pub of_next_metadata : Option NextMetadata → PacketMetadataAnswer
of_next_metadata (Some next) = packet_read is 0 0 next.packet (of_metadata next.metadata) next.rest
of_next_metadata None = packet_read nothing 0 0 no_packet no_metadata no_rest

-- a packet over the limit, wherever it ends, is refused itself: its start is told
abbrev pub of_metadata_in_window : MetadataInWindow → PacketMetadataAnswer
of_metadata_in_window (window-metadata.Is next) = packet_read is 0 0 next.packet (of_metadata next.metadata) next.rest
of_metadata_in_window (window-metadata.OverLimit start r rest) = packet_read refused r.number r.place (record { start = start; end = 0 }) no_metadata rest
of_metadata_in_window (window-metadata.More from) = packet_read more 0 from no_packet no_metadata no_rest
of_metadata_in_window window-metadata.End = packet_read nothing 0 0 no_packet no_metadata no_rest
