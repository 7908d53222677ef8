-- What a key is known by: the tag of an item with that key, and the group that the key names. Assumes nothing: these are definitions.
use Rattle.std.specs.Prelude.{ℕ, List, ◌++◌}
use Rattle.keys.specs.Table.{keys_in, sharing, counted, found}
use Rattle.keys.specs.Tags.{data_tag, unit_tag, matrix_tag, scale_tag, timestamp_us_tag, name_tag, temperature_tag, count_tag, orientation_in_tag, orientation_out_tag}
use Rattle.keys.specs.declared.GroupId.{GroupId}
use Rattle.keys.specs.declared.Known.{Known}

-- the twenty-six keys that have a tag, as document 01 lists them (Items and the walk)
unfoldable pub tags : List Known
tags =
    sharing data_tag (keys_in "GYRO ACCL GRAV WBAL ISOE SHUT MWET IORI CORI AALP WNDM UNIF WRGB GPS5 FASC")
    ++ sharing unit_tag (keys_in "SIUN UNIT")
    ++ sharing matrix_tag (keys_in "MTRX")
    ++ sharing scale_tag (keys_in "SCAL")
    ++ sharing timestamp_us_tag (keys_in "STMP")
    ++ sharing name_tag (keys_in "STNM DVNM")
    ++ sharing temperature_tag (keys_in "TMPC")
    ++ sharing count_tag (keys_in "TSMP")
    ++ sharing orientation_in_tag (keys_in "ORIN")
    ++ sharing orientation_out_tag (keys_in "ORIO")

-- the tag number of a key: document 01, Items and the walk ("All others are 0")
abbrev pub tag_of : ℕ → ℕ
tag_of k = found tags k

-- the sixteen keys whose groups have a number, as the Rust's `group_from_key` names them, from 1
unfoldable pub groups : List Known
groups = counted 1 (keys_in "GYRO ACCL GRAV MAGN CORI IORI SHUT GPS5 FASC MWET AALP WNDM UNIF WRGB WBAL ISOE")

-- the group that a key names: its number, 0 for every other key, and the key itself, which tells the groups without a number apart
abbrev pub group_of : ℕ → GroupId
group_of k = record { number = found groups k; key = k }
