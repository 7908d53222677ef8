-- The relation admits every placement that demand 3 allows: at each item that is read, new items can be put in front of it, behind which it may be
-- passed by, or entered if it is a container. And 262,148 is a length that no header writes. Assumes nothing.
use Prim.Native.Nat.{ℕ, zero, suc, ◌*◌, ◌/◌, ◌<◌, ◌≤◌}
use mathlib.Core.Path.{◌≡◌, refl, sym, ap, ◌∙◌, subst}
use mathlib.Core.Logic.{◌≢◌}
use mathlib.Core.Bool.{Bool, true, false, ◌&&◌, ◌||◌}
use mathlib.Core.List.{List, ◌++◌}
use native.Mathlib.Decide.{dec_le}
use native.Mathlib.Nat.{mul-div_cancel_left}
use native.Mathlib.Omega.{arith}
use borrow.Author.Tests.{eq-eqb, lt-ltb}
use lib.Dec.{eqb, ltb}
use Rattle.foundation.specs.BigEndian.{AreBytes}
use Rattle.klv.specs.declared.KLV.{KLV}
use Rattle.klv.specs.Item.{data_len, item, first_item, Written, laid_out}
use Rattle.klv.proofs.Item.{of_item}
use Rattle.klv.proofs.Laid.{padding_of, laid_first}
use Rattle.newer_camera.specs.PutIn.{IsNew, IsOld, Matches, PutIn, new, behind, inside}

module _ (s : List ℕ) (h : KLV) (payload rest : List ℕ) (bytes : AreBytes s) (reads : first_item s ≡ item h payload rest) where
  is_old : IsOld h payload (padding_of h s) rest
  is_old = let l = laid_first s h payload rest bytes reads in record { whole = record { written = l.written; is_long = l.is_data }; padded = l.padded }

  -- IN FRONT of an item that is read
  pub in_front_lem : {g : KLV} {p padding t : List ℕ} → IsNew g p padding → PutIn s t → PutIn s (laid_out g p padding ++ t)
  in_front_lem i put = let room = (of_item s h payload rest reads).room in new {s = s} i (omega arith) put

  -- BEHIND it
  pub past_it : {t : List ℕ} → PutIn rest t → PutIn s (laid_out h payload (padding_of h s) ++ t)
  past_it {t = t} put = subst (λ (x : List ℕ). PutIn x (laid_out h payload (padding_of h s) ++ t)) (sym (laid_first s h payload rest bytes reads).is) (behind is_old put)

  -- INSIDE it
  pub into_it : {g : KLV} {grown cushion t : List ℕ} → Matches h g grown (padding_of h s) cushion → PutIn payload grown → PutIn rest t → PutIn s (laid_out g grown cushion ++ t)
  into_it {g = g} {grown = grown} {cushion = cushion} {t = t} m within put =
      subst (λ (x : List ℕ). PutIn x (laid_out g grown cushion ++ t)) (sym (laid_first s h payload rest bytes reads).is) (inside is_old m within put)

-- ---- 262,148

-- a size that writes it with a repeat of 16 bits
abbrev writes : ℕ → Bool
writes size = eqb (size * (262148 / size)) 262148 && ltb (262148 / size) 65536

abbrev some_below : ℕ → Bool
some_below zero = false
some_below (suc n) = writes n || some_below n

none_below : (n size : ℕ) → some_below n ≡ false → size < n → writes size ≡ false
none_below zero size e l = absurd (omega arith)
none_below (suc n) size e l = go (none_below n size) (dec_le n size) (writes n) refl e
  where
    go : (some_below n ≡ false → size < n → writes size ≡ false) → Dec (n ≤ size) → (b : Bool) → writes n ≡ b → (b || some_below n) ≡ false → writes size ≡ false
    go below d true q o = let z : ◌≡◌ {A = ℕ} 0 1 = cc in absurd (omega arith)
    go below (yes k) false q o = let same : size ≡ n = omega arith in ap writes same ∙ q
    go below (no k) false q o = below o (omega arith)

-- "262,148 is none"
pub no_header_writes : (h : KLV) → Written h → data_len h ≢ 262148
no_header_writes h w e = go (dec_le 1 h.size)
  where
    go : Dec (1 ≤ h.size) → ⊥
    go (no k) = let zero-size : h.size ≡ 0 = omega arith in let product : 0 * h.repeat ≡ 262148 = rw zero-size at e in omega arith
    go (yes k) =
        let quotient : 262148 / h.size ≡ h.repeat = ap (λ (x : ℕ). x / h.size) (sym e) ∙ mul-div_cancel_left h.repeat k in
        let product : eqb (data_len h) 262148 ≡ true = eq-eqb (data_len h) 262148 e in
        let small : ltb h.repeat 65536 ≡ true = lt-ltb h.repeat 65536 w.repeat in
        let found : writes h.size ≡ true = rw (quotient, product, small) in
        let none = none_below 256 h.size refl w.size in
        let z : ◌≡◌ {A = ℕ} 0 1 = cc in
        omega arith
