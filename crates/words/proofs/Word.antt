-- What decoding a word comes to: no characters, a dash, and all else as bytes in hex. Assumes nothing.
use Prim.Native.Nat.{ℕ}
use mathlib.Core.Path.{◌≡◌, refl, sym, ◌∙◌}
use mathlib.Core.Bool.{true, false}
use mathlib.Core.List.{List, [], ◌∷◌}
use native.Mathlib.Omega.{arith}
use borrow.Author.Tests.{ne_eqb}
use lib.Dec.{eqb, leb-zero}
use lib.ListN.{length}
use Rattle.line.specs.Read.{decoded_into, Decodes}
use Rattle.text.specs.Lay.{laid}
use lib.Pointwise.{pointwise}
use Rattle.std.specs.Prelude.{◌&&◌, nat_eq, Bool, Result, Ok, Err}
use Rattle.line.specs.declared.HexError.{HexError}
use Rattle.line.specs.declared.HexError.TheVariants.{NotHex}
use Rattle.words.specs.Words.{is_dash, decoded_word, DecodesWord}

-- whether a word is a dash, by comparing it with one
dash_or_not : (word : List ℕ) → is_dash word ≡ pointwise nat_eq word (45 ∷ [])
unfolding is_dash
dash_or_not [] = refl
dash_or_not (c ∷ []) = by (eqb c 45)
  where
    by : (t : Bool) → t ≡ (t && true)
    by true = refl
    by false = refl
dash_or_not (c ∷ b ∷ s) = rw (ne_eqb (length (c ∷ b ∷ s)) 1 (λ e. omega (arith, e))) (by (eqb c 45))
  where
    by : (t : Bool) → false ≡ (t && false)
    by true = refl
    by false = refl

pub is_dash_by : (word other : List ℕ) → other ≡ 45 ∷ [] → is_dash word ≡ pointwise nat_eq word other
is_dash_by word other e = rw e (dash_or_not word)

pub no_word : (word out : List ℕ) → length word ≡ 0 → DecodesWord word out (Err NotHex) out
unfolding decoded_word decoded_into laid
no_word [] out e = record { is = refl; leaves = sym (rw (leb-zero (length out))) }
no_word (c ∷ s) out e = absurd (omega (arith, e))

pub dash : (word out : List ℕ) → (length word ≡ 0 → ⊥) → is_dash word ≡ true → DecodesWord word out (Ok 0) out
unfolding decoded_word decoded_into is_dash
dash [] out e d = absurd (e refl)
dash (c ∷ []) out e d = record { is = sym (rw d); leaves = refl }
dash (c ∷ b ∷ s) out e d =
    let long : eqb (length (c ∷ b ∷ s)) 1 ≡ false = ne_eqb (length (c ∷ b ∷ s)) 1 (λ one. omega (arith, one)) in
    let z : ◌≡◌ {A = ℕ} 0 1 = cc in
    absurd (omega arith)

pub plain : (word out : List ℕ) (r : Result ℕ HexError) (after : List ℕ) → (length word ≡ 0 → ⊥) → is_dash word ≡ false → Decodes word out r after → DecodesWord word out r after
unfolding decoded_word
plain word out r after e d p = record { is = p.is ∙ sym (rw (ne_eqb (length word) 0 e, d)); leaves = p.leaves }
