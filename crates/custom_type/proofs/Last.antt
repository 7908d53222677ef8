-- The last character of what is written, as it is copied: behind a letter, and behind copies of itself. Assumes nothing.
use Prim.Native.Nat.{ℕ, zero, suc, ◌+◌, ◌%◌}
use mathlib.Core.Path.{◌≡◌, refl, ap, ◌∙◌}
use mathlib.Core.Bool.{Bool, true, false, cond, not}
use mathlib.Core.List.{List, [], ◌∷◌, ◌++◌}
use native.Mathlib.Omega.{arith}
use borrow.Author.Tests.{lt-leb}
use lib.Dec.{leb}
use lib.ListN.{replicate}
use Rattle.custom_type.specs.Expansion.{copied, last_of, copies}
use Rattle.custom_type.specs.Held.{is_empty, last_copied}

-- a copy is copied as itself
copied_twice : (c : ℕ) → copied (copied c) ≡ copied c
unfolding copied
copied_twice c = go (leb c 127) refl
  where
    go : (b : Bool) → leb c 127 ≡ b → copied (cond b c (128 + c % 64)) ≡ cond b c (128 + c % 64)
    go true e = ap (λ (b : Bool). cond b c (128 + c % 64)) e
    go false e =
        let above : leb (128 + c % 64) 127 ≡ false = lt-leb (128 + c % 64) 127 (omega arith) in
        let same : (128 + c % 64) % 64 ≡ c % 64 = omega arith in
        rw (above, same)

last_more : (c : ℕ) (s : List ℕ) (d : ℕ) → last_of c (s ++ d ∷ []) ≡ d
last_more c [] d = refl
last_more c (e ∷ s) d = last_more e s d

last_run : (n c d : ℕ) → copied d ≡ copied c → copied (last_of c (replicate n d)) ≡ copied c
last_run zero c d h = refl
last_run (suc n) c d h = last_run n d d refl ∙ h

last_behind : (n c d : ℕ) (s : List ℕ) → copied d ≡ copied (last_of c s) → copied (last_of c (s ++ replicate n d)) ≡ copied (last_of c s)
last_behind n c d [] h = last_run n c d h
last_behind n c d (e ∷ s) h = last_behind n e d s h

pub letter_last : (s : List ℕ) (c : ℕ) → last_copied (s ++ c ∷ []) ≡ copied c
letter_last [] c = refl
letter_last (a ∷ s) c = ap copied (last_more a s c)

pub letter_some : (s : List ℕ) (c : ℕ) → is_empty (s ++ c ∷ []) ≡ false
letter_some [] c = refl
letter_some (a ∷ s) c = refl

pub copies_last : (n : ℕ) (s : List ℕ) → last_copied (s ++ copies n s) ≡ last_copied s
copies_last n [] = refl
copies_last n (c ∷ s) = last_behind n c (copied (last_of c s)) s (copied_twice (last_of c s))

pub copies_some : (n : ℕ) (s : List ℕ) → is_empty (s ++ copies n s) ≡ is_empty s
copies_some n [] = refl
copies_some n (c ∷ s) = refl

-- copies are a run of the last character, of none where there is none
pub copies_run : (n : ℕ) (s : List ℕ) → copies n s ≡ replicate (cond (not (is_empty s)) n 0) (last_copied s)
copies_run n [] = refl
copies_run n (c ∷ s) = refl
