-- Two numbers that document 01 fixes, for all that reads a payload. Assumes nothing: these are definitions.
use Rattle.std.specs.Prelude.{ℕ}

-- "A payload is at most 1,048,576 bytes" (document 01, What is read)
abbrev pub most_bytes : ℕ
most_bytes = 1048576

-- "else 4,294,967,295": the place of a TYPE where none is in force (document 01, Items and the walk)
abbrev pub no_place : ℕ
no_place = 4294967295
