-- What an answer says of a text, and the other way round. Assumes nothing.
use Prim.Native.Nat.{ℕ, ◌≤◌, ◌<◌}
use mathlib.Core.Path.{◌≡◌, refl, ap}
use mathlib.Core.Bool.{Bool, true, false, cond}
use mathlib.Core.List.{List}
use native.Mathlib.Omega.{arith}
use borrow.Author.Tests.{le-leb, lt-leb}
use lib.ListN.{length}
use Rattle.std.specs.Prelude.{Result, Ok, Err}
use Rattle.foundation.specs.declared.refusal.Fault.{Fault}
use Rattle.foundation.specs.declared.refusal.Fault.TheVariants.{LongType}
use Rattle.custom_type.specs.Resolved.{refusal, fits, told}

pub too_long_lem : (e : List ℕ) → 256 < length e → Err LongType ≡ told e
too_long_lem e h = rw (lt-leb (length e) 256 h)

pub all_told : (e : List ℕ) (n : ℕ) → n ≡ length e → n ≤ 256 → Ok n ≡ told e
all_told e n q h =
    let l : length e ≤ 256 = omega arith in
    rw (le-leb (length e) 256 l) (ap Ok q)

pub told_characters : (e : List ℕ) (n : ℕ) → told e ≡ Ok n → (fits e ≡ true) × (length e ≡ n)
told_characters e n h = go (fits e) h
  where
    go : (b : Bool) → ◌≡◌ {A = Result ℕ Fault} (cond b (Ok (length e)) (Err LongType)) (Ok n) → (b ≡ true) × (length e ≡ n)
    go true h = (refl, cc)
    go false h = let z : ◌≡◌ {A = ℕ} 0 1 = cc in absurd (omega arith)

-- a text is refused for its length alone
pub told_over : (e : List ℕ) (f : Fault) → told e ≡ Err f → (fits e ≡ false) × (f ≡ LongType)
told_over e f h = go (fits e) h
  where
    go : (b : Bool) → ◌≡◌ {A = Result ℕ Fault} (cond b (Ok (length e)) (Err LongType)) (Err f) → (b ≡ false) × (f ≡ LongType)
    go true h = let z : ◌≡◌ {A = ℕ} 0 1 = cc in absurd (omega arith)
    go false h = (refl, cc)

-- document 01's number: 8 exactly over 256 characters
pub refusal_8 : (e : List ℕ) → refusal (told e) ≡ cond (fits e) 0 8
refusal_8 e = go (fits e)
  where
    go : (b : Bool) → refusal (cond b (Ok (length e)) (Err LongType)) ≡ cond b 0 8
    go true = refl
    go false = refl
