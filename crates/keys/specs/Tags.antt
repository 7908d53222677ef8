-- The tags, by the names that the Rust's `tag_id` gives them and the numbers of document 01 (Items and the walk). Assumes nothing: these are definitions.
use Rattle.std.specs.Prelude.{ℕ}

-- of every key that has none: "All others are 0"
abbrev pub no_tag : ℕ
no_tag = 0

-- Data: the readings
abbrev pub data_tag : ℕ
data_tag = 1

-- Unit: of what the readings are
abbrev pub unit_tag : ℕ
unit_tag = 2

-- Matrix: how the axes are turned
abbrev pub matrix_tag : ℕ
matrix_tag = 3

-- Scale: what the readings are divided by
abbrev pub scale_tag : ℕ
scale_tag = 4

-- TimestampUs: a time in microseconds
abbrev pub timestamp_us_tag : ℕ
timestamp_us_tag = 5

-- Name, of a stream or of a device
abbrev pub name_tag : ℕ
name_tag = 6

-- Temperature, of the camera
abbrev pub temperature_tag : ℕ
temperature_tag = 7

-- Count: the samples so far
abbrev pub count_tag : ℕ
count_tag = 8

-- OrientationIn: the order of the axes that come in
abbrev pub orientation_in_tag : ℕ
orientation_in_tag = 9

-- OrientationOut: the order in which they are wanted
abbrev pub orientation_out_tag : ℕ
orientation_out_tag = 10
