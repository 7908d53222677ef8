-- Bits of some floats, computed: 1, -0, and a NaN with other bits. Assumes nothing.
use mathlib.Core.Path.{◌≡◌, refl}
use lib.Ieee.{binary32, binary64, of_bits, to_bits, is_nan}
use Rattle.float_bits.specs.FloatBits.{single_bits, double_bits}

pub singles : (single_bits (of_bits binary32 0x3f80_0000) ≡ 0x3f80_0000) × (single_bits (of_bits binary32 0x8000_0000) ≡ 0x8000_0000) × (single_bits (of_bits binary32 0xffc0_0001) ≡ 0x7fc0_0000)
unfolding single_bits of_bits to_bits is_nan
singles = (refl, refl, refl)

pub doubles : (double_bits (of_bits binary64 0x3ff0_0000_0000_0000) ≡ 0x3ff0_0000_0000_0000) × (double_bits (of_bits binary64 0xfff8_0000_0000_0001) ≡ 0x7ff8_0000_0000_0000)
unfolding double_bits of_bits to_bits is_nan
doubles = (refl, refl)
