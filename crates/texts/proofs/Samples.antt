-- Texts computed by the definitions: what the Rust's `parse_string` and `parse_strings` answer for them. Assumes nothing.
use mathlib.Core.Path.{◌≡◌, refl}
use mathlib.Core.Bool.{true, false}
use mathlib.Core.List.{[], ◌∷◌, ◌++◌}
use lib.ListN.{length}
use Rattle.foundation.specs.Fuel.{run, fix}
use Rattle.foundation.specs.Text.{characters}
use Rattle.texts.specs.Kept.{kept, up_to_zero}
use Rattle.texts.specs.Utf8.{table, well_formed}
use Rattle.texts.specs.Scalar.{encode}
use Rattle.texts.specs.Texts.{chunks, are_well_formed}

-- zeros at the end are dropped, one inside stays
pub trailing_zeros : kept (characters "ab" ++ (0 ∷ 0 ∷ [])) ≡ characters "ab"
trailing_zeros = refl

pub zero_inside : kept (97 ∷ 0 ∷ 98 ∷ 0 ∷ []) ≡ 97 ∷ 0 ∷ 98 ∷ []
zero_inside = refl

pub all_zeros : length (kept (0 ∷ 0 ∷ 0 ∷ [])) ≡ 0
all_zeros = refl

-- a UTF-8 text stops at its first zero
pub first_zero : up_to_zero (97 ∷ 0 ∷ 98 ∷ 0 ∷ []) ≡ 97 ∷ []
first_zero = refl

-- refused: a zero in two bytes, a surrogate, a number above U+10FFFF, a byte of the middle alone, a sequence cut short
pub overlong : well_formed (0xC0 ∷ 0x80 ∷ []) ≡ false
unfolding well_formed table
overlong = refl

pub overlong_slash : well_formed (0xE0 ∷ 0x80 ∷ 0xAF ∷ []) ≡ false
unfolding well_formed table
overlong_slash = refl

pub surrogate : well_formed (0xED ∷ 0xA0 ∷ 0x80 ∷ []) ≡ false
unfolding well_formed table
surrogate = refl

pub too_high : well_formed (0xF4 ∷ 0x90 ∷ 0x80 ∷ 0x80 ∷ []) ≡ false
unfolding well_formed table
too_high = refl

-- "m/s²" as some cameras write it, with the Latin-1 byte of ²
pub latin1_square : well_formed (characters "m/s" ++ (0xB2 ∷ [])) ≡ false
unfolding well_formed table
latin1_square = refl

pub cut_short : well_formed (97 ∷ 0xE2 ∷ 0x82 ∷ []) ≡ false
unfolding well_formed table
cut_short = refl

-- accepted: the euro sign, and the last scalar value
pub euro : well_formed (0xE2 ∷ 0x82 ∷ 0xAC ∷ []) ≡ true
unfolding well_formed table
euro = refl

pub euro_encoded : encode 0x20AC ≡ 0xE2 ∷ 0x82 ∷ 0xAC ∷ []
unfolding encode
euro_encoded = refl

pub last_encoded : encode 0x10FFFF ≡ 0xF4 ∷ 0x8F ∷ 0xBF ∷ 0xBF ∷ []
unfolding encode
last_encoded = refl

-- texts of four bytes, the last one shorter
pub two_texts : chunks 4 (characters "deg" ++ (0 ∷ characters "m/s")) ≡ (characters "deg" ++ (0 ∷ [])) ∷ characters "m/s" ∷ []
unfolding chunks fix run
two_texts = refl

-- with size 0 all is one text
pub one_text_lem : chunks 0 (characters "deg") ≡ characters "deg" ∷ []
unfolding chunks fix run
one_text_lem = refl

-- what stands behind a text's zero does not count, and each text counts
pub behind_a_zero : are_well_formed 3 (97 ∷ 0 ∷ 0xB2 ∷ 98 ∷ 99 ∷ 100 ∷ []) ≡ true
unfolding are_well_formed chunks fix run well_formed table
behind_a_zero = refl

pub second_refused : are_well_formed 2 (97 ∷ 98 ∷ 0xB2 ∷ 0 ∷ []) ≡ false
unfolding are_well_formed chunks fix run well_formed table
second_refused = refl

-- a sequence does not run from one text into the next
pub cut_by_size : are_well_formed 2 (97 ∷ 0xC2 ∷ 0xB2 ∷ 97 ∷ []) ≡ false
unfolding are_well_formed chunks fix run well_formed table
cut_by_size = refl

pub not_cut : are_well_formed 4 (97 ∷ 0xC2 ∷ 0xB2 ∷ 97 ∷ []) ≡ true
unfolding are_well_formed chunks fix run well_formed table
not_cut = refl
