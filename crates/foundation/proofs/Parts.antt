-- Parts of a list: what `lib.Seq` does not have. Assumes nothing.
use Prim.Native.Nat.{ℕ, zero, suc, ◌+◌, min, ◌≤◌}
use mathlib.Core.Path.{◌≡◌, sym, ap, ◌∙◌}
use mathlib.Core.List.{List, [], ◌∷◌}
use native.Mathlib.Nat.{zero-add, suc-add}
use native.Mathlib.Decide.{dec_le}
use native.Mathlib.Omega.{arith}
use lib.ListN.{length, take, drop}
use lib.Seq.{take_all, take-nil, drop-nil}

module _ {A : Type 0} where
  -- no more than there is
  pub take_min : (n : ℕ) (l : List A) → take (min n (length l)) l ≡ take n l
  take_min n l = go (dec_le n (length l))
    where
      go : Dec (n ≤ length l) → take (min n (length l)) l ≡ take n l
      go (yes h) = let e : min n (length l) ≡ n = omega arith in ap (λ (k : ℕ). take k l) e
      go (no h) =
          let e : min n (length l) ≡ length l = omega arith in
          ap (λ (k : ℕ). take k l) e ∙ take_all (length l) l (omega arith) ∙ sym (take_all n l (omega arith))

  -- THE BRIDGE from places in one list to a list of its own: the part from n on of what ends q behind it
  pub drop_take : (n q : ℕ) (l : List A) → drop n (take (n + q) l) ≡ take q (drop n l)
  drop_take zero q l = rw (zero-add q)
  drop_take (suc n) q [] = rw (take-nil {A = A} (suc n + q), take-nil {A = A} q, drop-nil)
  drop_take (suc n) q (a ∷ l) = rw (suc-add n q) (drop_take n q l)
