-- Samples in the description's own pattern, and the items of document 01's cases 3 to 5, computed by the definitions. Assumes nothing.
use Prim.Native.Nat.{ℕ}
use mathlib.Core.Path.{◌≡◌, refl}
use mathlib.Core.List.{List, [], ◌∷◌, ◌++◌}
use lib.ListN.{drop}
use Rattle.foundation.specs.BigEndian.{big_endian}
use Rattle.foundation.specs.Fuel.{run, fix}
use Rattle.foundation.specs.Text.{key, characters}
use Rattle.klv.specs.declared.KLV.{KLV}
use Rattle.klv.specs.Item.{few, past, item, first_item, laid_out}
use Rattle.klv.specs.Level.{left, node, items_of}

-- three samples of a three-byte colour, padded by three zeros: the length field says 9 (GPMF description, Samples: padding)
abbrev colours : List ℕ
colours = 0x52 ∷ 0x47 ∷ 0x42 ∷ 0x38 ∷ 0x42 ∷ 0x03 ∷ 0x00 ∷ 0x03 ∷ 1 ∷ 2 ∷ 3 ∷ 4 ∷ 5 ∷ 6 ∷ 7 ∷ 8 ∷ 9 ∷ 0 ∷ 0 ∷ 0 ∷ []

abbrev colour : KLV
colour = record { key = key "RGB8"; data_type = 66; size = 3; repeat = 3 }

pub padding_sample : first_item colours ≡ item colour (1 ∷ 2 ∷ 3 ∷ 4 ∷ 5 ∷ 6 ∷ 7 ∷ 8 ∷ 9 ∷ []) []
unfolding first_item
padding_sample = refl

pub padding_laid : laid_out colour (1 ∷ 2 ∷ 3 ∷ 4 ∷ 5 ∷ 6 ∷ 7 ∷ 8 ∷ 9 ∷ []) (0 ∷ 0 ∷ 0 ∷ []) ≡ colours
padding_laid = refl

-- key ABCD, B, size 5, repeat 1, five bytes and no padding: an item (case 3); with size 6 its payload runs past the end (case 4)
abbrev five : ℕ → List ℕ
five size = characters "ABCD" ++ (66 ∷ size ∷ 0 ∷ 1 ∷ 10 ∷ 11 ∷ 12 ∷ 13 ∷ 14 ∷ [])

pub unpadded : first_item (five 5) ≡ item (record { key = key "ABCD"; data_type = 66; size = 5; repeat = 1 }) (10 ∷ 11 ∷ 12 ∷ 13 ∷ 14 ∷ []) []
unfolding first_item
unpadded = refl

pub too_long_lem : first_item (five 6) ≡ past
unfolding first_item
too_long_lem = refl

-- seven bytes hold no header
pub seven : first_item (0 ∷ 0 ∷ 0 ∷ 0 ∷ 0 ∷ 0 ∷ 0 ∷ []) ≡ few
unfolding first_item
seven = refl

-- a device with its number and name, as a tree: padding is stepped over, and counts in the container's length (GPMF description, Samples: a device)
abbrev device : List ℕ
device =
    characters "DEVC" ++ (0 ∷ 1 ∷ 0 ∷ 28 ∷ characters "DVID") ++ (76 ∷ 4 ∷ 0 ∷ 1 ∷ 0 ∷ 0 ∷ 0x10 ∷ 1 ∷ characters "DVNM")
    ++ (99 ∷ 1 ∷ 0 ∷ 6 ∷ characters "Camera") ++ (0 ∷ 0 ∷ [])

abbrev header : List ℕ → ℕ → ℕ → ℕ → KLV
header k letter size repeat = record { key = big_endian k; data_type = letter; size = size; repeat = repeat }

pub device_sample : items_of device
    ≡ node (header (characters "DEVC") 0 1 28) (drop 8 device)
    (node (header (characters "DVID") 76 4 1) (0 ∷ 0 ∷ 0x10 ∷ 1 ∷ []) (left 4) (node (header (characters "DVNM") 99 1 6) (characters "Camera") (left 6) (left 0)))
    (left 0)
unfolding items_of fix run first_item
device_sample = refl
