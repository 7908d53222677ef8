-- A signed number in decimal, by how far it lies from zero; and how far a number of 64 bits lies below zero, computed
-- without leaving 64 bits. Assumes nothing.
use Prim.Native.Nat.{ℕ, zero, suc, ◌<◌, ◌^◌}
use mathlib.Core.Path.{◌≡◌, refl, ap, ◌∙◌}
use mathlib.Core.Bool.{true, false, true≢false}
use mathlib.Core.List.{◌∷◌}
use native.Mathlib.Omega.{arith}
use borrow.Author.Tests.{ltb-true}
use lib.Dec.{T}
use lib.IntN.{ℤ, pos, negsuc, suc_ℤ, nat_abs, ◌+ℤ◌, ◌-ℤ◌, +ℤ_one, +ℤ_idl}
use lib.Signed.{mag, lt_z, non_neg}
use mir.Syntax.{w64}
use mir.Val.{Fits, SFits, to_z, of_z}
use mir.Facts.{to_z-of_z}
use Rattle.numerals.specs.Numerals.{decimal, signed_decimal}

pub below_zero : (n : ℤ) → lt_z n (pos 0) ≡ true → n ≡ negsuc (mag n)
below_zero (pos a) h = let l : a < 0 = ltb-true a 0 h in absurd (omega arith)
below_zero (negsuc k) h = refl

mag_suc : (k : ℕ) → k < 2 ^ 63 → mag (suc_ℤ (negsuc k)) < 2 ^ 63
mag_suc zero h = h
mag_suc (suc k) h = omega arith

turned_about : (k : ℕ) → pos 0 -ℤ suc_ℤ (negsuc k) ≡ pos k
turned_about zero = refl
turned_about (suc k) = +ℤ_idl (pos (suc k))

module _ (n : ℤ) (h : lt_z n (pos 0) ≡ true) (fit : SFits w64 n) where
  abbrev pub raised : ℤ
  raised = to_z w64 (of_z w64 n) +ℤ pos 1

  abbrev pub turned : ℤ
  turned = pos 0 -ℤ to_z w64 (of_z w64 raised)

  raised_is : raised ≡ suc_ℤ (negsuc (mag n))
  raised_is = ap (λ (z : ℤ). z +ℤ pos 1) (to_z-of_z {w = w64} fit ∙ below_zero n h) ∙ +ℤ_one (negsuc (mag n))

  pub raised_fits : SFits w64 raised
  raised_fits = record { sfits = rw raised_is (mag_suc (mag n) fit.sfits) }

  turned_is : turned ≡ pos (mag n)
  turned_is = ap (λ (z : ℤ). pos 0 -ℤ z) (to_z-of_z {w = w64} raised_fits ∙ raised_is) ∙ turned_about (mag n)

  pub turned_fits : SFits w64 turned
  turned_fits = record { sfits = rw turned_is fit.sfits }

  pub read_back : to_z w64 (of_z w64 turned) ≡ pos (mag n)
  read_back = to_z-of_z {w = w64} turned_fits ∙ turned_is

pub signed_below : (n : ℤ) → lt_z n (pos 0) ≡ true → signed_decimal n ≡ 45 ∷ decimal (nat_abs n)
unfolding signed_decimal
signed_below (pos a) h = let l : a < 0 = ltb-true a 0 h in absurd (omega arith)
signed_below (negsuc k) h = refl

pub above_fits : (n : ℤ) → lt_z n (pos 0) ≡ false → SFits w64 n → T (non_neg n) × Fits w64 (nat_abs n)
above_fits (pos a) h fit = (tt, omega (arith, fit.sfits))
above_fits (negsuc k) h fit = absurd (true≢false h)

pub signed_above : (n : ℤ) → lt_z n (pos 0) ≡ false → signed_decimal n ≡ decimal (nat_abs n)
unfolding signed_decimal
signed_above (pos a) h = refl
signed_above (negsuc k) h = absurd (true≢false h)
