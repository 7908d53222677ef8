-- Bytes stay bytes in each part of a list. Assumes nothing.
use Prim.Native.Nat.{ℕ, zero, suc, ◌+◌, ◌<◌}
use mathlib.Core.Path.{subst, sym}
use mathlib.Core.List.{List, [], ◌∷◌, ◌++◌}
use lib.Dec.{lit<}
use lib.ListN.{take, drop}
use lib.Seq.{get_or-drop}
use Rattle.foundation.specs.BigEndian.{AreBytes}

pub none_bytes : AreBytes []
none_bytes i = lit< tt

pub cons_bytes : (b : ℕ) (s : List ℕ) → b < 256 → AreBytes s → AreBytes (b ∷ s)
cons_bytes b s h k zero = h
cons_bytes b s h k (suc i) = k i

pub append_bytes : (s t : List ℕ) → AreBytes s → AreBytes t → AreBytes (s ++ t)
append_bytes [] t h k i = k i
append_bytes (b ∷ s) t h k zero = h 0
append_bytes (b ∷ s) t h k (suc i) = append_bytes s t (λ j. h (suc j)) k i

pub take_bytes : (n : ℕ) (s : List ℕ) → AreBytes s → AreBytes (take n s)
take_bytes zero s h i = lit< tt
take_bytes (suc n) [] h i = lit< tt
take_bytes (suc n) (b ∷ s) h zero = h 0
take_bytes (suc n) (b ∷ s) h (suc i) = take_bytes n s (λ j. h (suc j)) i

pub drop_bytes : (n : ℕ) (s : List ℕ) → AreBytes s → AreBytes (drop n s)
drop_bytes n s h i = subst (λ (x : ℕ). x < 256) (sym (get_or-drop n s i 0)) (h (n + i))
