-- THE FRONT RULE OF THE CHAIN: where the last item of a payload is refused at a place, that of the bytes before the place is told, or there is none. Assumes nothing.
use Prim.Native.Nat.{ℕ, zero, suc, ◌+◌, ◌-◌, ◌≤◌}
use mathlib.Core.Path.{◌≡◌, refl, sym, ap, ◌∙◌, subst}
use mathlib.Core.List.{List}
use native.Mathlib.Decide.{dec_le}
use native.Mathlib.Omega.{arith}
use lib.ListN.{length, take, length-take}
use Rattle.klv.specs.declared.KLV.{KLV}
use Rattle.klv.specs.Item.{data_len, aligned, item, next_at}
use Rattle.klv.specs.Level.{Level, left, broken, node, items_of}
use Rattle.klv.proofs.Level.{items_first, items_none, of_node}
use Rattle.reading.specs.Refusal.{Refusal}
use Rattle.reading.specs.Last.{Last, none, last, stopped, or_else, last_item, last_reading}
use Rattle.reading.specs.Front.{Told}
use Rattle.reading.proofs.Cut.{first_front}
use Rattle.reading.proofs.Payload.{last_long, last_within}

-- the bytes of a level before the place p, read alone
record Alone (s : List ℕ) (at p : ℕ) : Type 0 where
  from : at ≤ p
  told : Told (last_item (items_of (take (p - at) s)) at)

-- nothing stands before the first item
at_once : (s : List ℕ) (at p : ℕ) → p ≡ at → Alone s at p
unfolding last_item
at_once s at p e =
    let nothing : p - at ≡ 0 = omega arith in
    record { from = omega arith; told = rw (nothing, items_none) tt }

or_else_told : (at : ℕ) (h : KLV) (x : Last) → Told x → Told (or_else (last at h) x)
or_else_told at h none t = tt
or_else_told at h (last k g) t = tt
or_else_told at h (stopped why k) t = t

or_else_stopped : (at : ℕ) (h : KLV) (x : Last) (why : Refusal) (p : ℕ) → or_else (last at h) x ≡ stopped why p → x ≡ stopped why p
or_else_stopped at h none why p e = let o : ◌≡◌ {A = ℕ} 0 1 = cc in absurd (omega arith)
or_else_stopped at h (last k g) why p e = let o : ◌≡◌ {A = ℕ} 0 1 = cc in absurd (omega arith)
or_else_stopped at h (stopped w k) why p e = e

abbrev Fronted : Level → Type 0
Fronted level = (s : List ℕ) (at : ℕ) (why : Refusal) (p : ℕ) → items_of s ≡ level → last_item level at ≡ stopped why p → Alone s at p

fronted_node : (h : KLV) (payload : List ℕ) (within behind : Level) → Fronted behind → Fronted (node h payload within behind)
unfolding last_item
fronted_node h payload within behind rest s at why p t e =
    let w = of_node s h payload within behind t in
    let alone = rest w.rest (next_at at h) why p w.is_behind (or_else_stopped at h (last_item behind (next_at at h)) why p e) in
    let q : ℕ = p - next_at at h in
    let next : next_at at h ≤ p = alone.from in
    let long : p - at ≡ 8 + (aligned (data_len h) + q) = omega arith in
    let tree : items_of (take (p - at) s) ≡ node h payload (items_of payload) (items_of (take q w.rest)) =
    ap (λ (n : ℕ). items_of (take n s)) long ∙ items_first (take (8 + (aligned (data_len h) + q)) s) (item h payload (take q w.rest)) (first_front s h payload w.rest q w.is_item) in
    record {
      from = omega arith;
      told = subst (λ (level : Level). Told (last_item level at)) (sym tree) (or_else_told at h (last_item (items_of (take q w.rest)) (next_at at h)) alone.told);
    }

fronted : (level : Level) → Fronted level
unfolding last_item
fronted (left zero) = λ s at why p t e. (let o : ◌≡◌ {A = ℕ} 0 1 = cc in absurd (omega arith))
fronted (left (suc n)) = λ s at why p t e. at_once s at p (cc)
fronted broken = λ s at why p t e. at_once s at p (cc)
fronted (node h payload within behind) = fronted_node h payload within behind (fronted behind)

-- THE FRONT RULE OF THE CHAIN
pub chain_front : (s : List ℕ) (why : Refusal) (p : ℕ) → last_reading s ≡ stopped why p → Told (last_reading (take p s))
chain_front s why p e = go (dec_le (length s) 1048576)
  where
    as_read_alone : length (take p s) ≤ 1048576 → Alone s 0 p → Told (last_reading (take p s))
    as_read_alone short a =
        let whole : p - 0 ≡ p = omega arith in
        rw (last_within (take p s) short) (rw whole at a.told)

    go : Dec (length s ≤ 1048576) → Told (last_reading (take p s))
    go (yes l) = as_read_alone (simp length-take (omega arith)) (fronted (items_of s) s 0 why p refl (sym (last_within s l) ∙ e))
    go (no l) =
        let long = last_long s (omega arith) in
        let start : p ≡ 0 = cc in
        as_read_alone (simp length-take (omega arith)) (at_once s 0 p start)
