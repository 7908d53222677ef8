-- An element of each letter, computed by the definition from its bytes: which are signed, which are floats, and which are fixed point. Assumes nothing.
use Prim.Native.Nat.{ℕ}
use Prim.Native.Char.{code}
use mathlib.Core.Path.{◌≡◌, refl}
use mathlib.Core.List.{List, [], ◌∷◌, map}
use lib.IntN.{negsuc}
use lib.Ieee.{binary32, binary64, of_bits, of_int, add, div}
use Rattle.fixed.specs.Fixed.{q15_16, q31_32}
use Rattle.foundation.specs.BigEndian.{bytes_of}
use Rattle.elements.specs.declared.Element.{Element}
use Rattle.elements.specs.declared.Element.TheVariants.{Signed, Unsigned, Single, Double}
use Rattle.elements.specs.Types.{width_of}
use Rattle.elements.specs.Element.{element_of, element_at}

-- a letter, bytes, and what they stand for
pub data Case : Type 0 where
  reads : ℕ → List ℕ → Element → Case

abbrev pub comes : Case → Element
comes (reads letter bytes said) = element_at bytes 0 letter

abbrev pub says : Case → Element
says (reads letter bytes said) = said

abbrev pub cases : List Case
cases =
    reads (code "b") (bytes_of 1 0xfe) (Signed (negsuc 1))
    ∷ reads (code "B") (bytes_of 1 0xfe) (Unsigned 0xfe)
    ∷ reads (code "s") (bytes_of 2 0x8000) (Signed (negsuc 0x7fff))
    ∷ reads (code "S") (bytes_of 2 0x8000) (Unsigned 0x8000)
    ∷ reads (code "l") (bytes_of 4 0xffff_fffe) (Signed (negsuc 1))
    ∷ reads (code "L") (bytes_of 4 0xffff_fffe) (Unsigned 0xffff_fffe)
    ∷ reads (code "j") (bytes_of 8 0xffff_ffff_ffff_fffe) (Signed (negsuc 1))
    ∷ reads (code "J") (bytes_of 8 0xffff_ffff_ffff_fffe) (Unsigned 0xffff_ffff_ffff_fffe)
    -- 1.5 in each form
    ∷ reads (code "f") (bytes_of 4 0x3fc0_0000) (Single (of_bits binary32 0x3fc0_0000))
    ∷ reads (code "d") (bytes_of 8 0x3ff8_0000_0000_0000) (Double (of_bits binary64 0x3ff8_0000_0000_0000))
    ∷ reads (code "q") (bytes_of 4 0x0001_8000) (Single (of_bits binary32 0x3fc0_0000))
    -- -2 and all of a unit are -1
    ∷ reads (code "Q") (bytes_of 8 0xffff_fffe_ffff_ffff) (Double (of_bits binary64 0xbff0_0000_0000_0000))
    -- a letter that reads nothing, and too few bytes
    ∷ reads (code "c") (bytes_of 1 7) (Unsigned 0)
    ∷ reads (code "S") (bytes_of 1 7) (Unsigned 0)
    ∷ []

pub as_the_types_say : map comes cases ≡ map says cases
unfolding element_at element_of width_of of_bits q15_16 q31_32 add of_int div
as_the_types_say = refl
