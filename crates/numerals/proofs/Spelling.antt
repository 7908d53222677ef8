-- Digits laid from the last to the first: what holds after each. Assumes nothing.
use Prim.Native.Nat.{ℕ, zero, suc, ◌+◌, ◌/◌, ◌%◌, ◌≤◌, ◌<◌}
use mathlib.Core.Path.{◌≡◌, refl, sym, ap, ◌∙◌}
use mathlib.Core.List.{List, [], ◌∷◌, ◌++◌, append_assoc}
use native.Mathlib.Nat.{le_refl, add-suc, add-zero}
use native.Mathlib.Numerals.{add-one}
use native.Mathlib.Omega.{arith}
use lib.ListN.{length, take, drop, set, get_or, length-append, length-set, take-append-drop}
use lib.Seq.{take-set-le, take-take, drop-cons, get_or-set_same, drop-set-lt}
use Rattle.text.specs.Lay.{over}
use Rattle.foundation.specs.Digits.{digits}
use Rattle.numerals.specs.Numerals.{last_digits}

pub length-last_digits : (base count n : ℕ) → length (last_digits base count n) ≡ count
length-last_digits base zero n = refl
length-last_digits base (suc count) n =
    length-append (last_digits base count (n / base)) (get_or digits (n % base) 0 ∷ [])
    ∙ ap (λ (k : ℕ). k + 1) (length-last_digits base count (n / base))
    ∙ add-one count

-- a store, and what stands from its place on
drop_set : (l : List ℕ) (i a : ℕ) → i < length l → drop i (set l i a) ≡ a ∷ drop (suc i) l
drop_set l i a h =
    drop-cons (set l i a) i 0 (rw (length-set l i a) h)
    ∙ ap (λ (x : ℕ). x ∷ drop (suc i) (set l i a)) (get_or-set_same l i a 0 h)
    ∙ ap (λ (s : List ℕ). a ∷ s) (drop-set-lt (suc i) l i a (le_refl (suc i)))

-- the digits of `rest` that are left stand before what is laid: together they are the whole
pub record Spelling (out₀ : List ℕ) (at n base count : ℕ) (out : List ℕ) (rest left : ℕ) : Type 0 where
  pub within : left ≤ count
  pub long : length out ≡ length out₀
  pub front : take (at + left) out ≡ take (at + left) out₀
  pub back : last_digits base left rest ++ drop (at + left) out ≡ last_digits base count n ++ drop (at + count) out₀

module _ (out₀ : List ℕ) (at n base count : ℕ) (out : List ℕ) where
  pub one_more : (rest left : ℕ) → at + count ≤ length out₀ → Spelling out₀ at n base count out rest (suc left)
      → Spelling out₀ at n base count (set out (at + left) (get_or digits (rest % base) 0)) (rest / base) left
  one_more rest left room s =
      let x : ℕ = get_or digits (rest % base) 0 in
      let here : ℕ = at + left in
      let inside : at + left < length out = omega (arith, s.within, s.long) in
      record {
        within = omega (arith, s.within);
        long = length-set out here x ∙ s.long;
        front =
            take-set-le here out here x (le_refl here)
            ∙ sym (take-take here (at + suc left) out (omega arith))
            ∙ ap (λ (l : List ℕ). take here l) s.front
            ∙ take-take here (at + suc left) out₀ (omega arith);
        back =
            ap (λ (l : List ℕ). last_digits base left (rest / base) ++ l) (drop_set out here x inside)
            ∙ sym (append_assoc (last_digits base left (rest / base)) (x ∷ []) (drop (suc here) out))
            ∙ ap (λ (k : ℕ). last_digits base (suc left) rest ++ drop k out) (sym (add-suc at left))
            ∙ s.back;
      }

  pub all_laid : (rest : ℕ) → Spelling out₀ at n base count out rest 0 → out ≡ over out₀ at (last_digits base count n)
  all_laid rest s =
      let front : take at out ≡ take at out₀ = rw add-zero at s.front in
      let back : drop at out ≡ last_digits base count n ++ drop (at + count) out₀ = rw add-zero at s.back in
      sym (take-append-drop at out)
      ∙ rw (front, back, length-last_digits) (sym (append_assoc (take at out₀) (last_digits base count n) (drop (at + count) out₀)))
