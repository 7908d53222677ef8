-- Laying a text, where it fits and where not; and two texts one behind the other, which are the two joined. Assumes nothing.
use Prim.Native.Nat.{ℕ, ◌+◌, ◌≤◌, ◌<◌}
use mathlib.Core.Path.{◌≡◌, refl, sym, ap, ◌∙◌}
use mathlib.Core.Bool.{Bool, true, false}
use mathlib.Core.List.{List, [], ◌∷◌, ◌++◌, append_assoc}
use native.Mathlib.Nat.{add_assoc}
use native.Mathlib.Numerals.{add-one}
use native.Mathlib.Omega.{arith}
use borrow.Author.Tests.{leb-true, leb-false, le-leb, lt-leb}
use lib.Dec.{leb}
use lib.ListN.{length, take, drop, set, length-append, length-drop}
use lib.Seq.{set_split, append_snoc, length-take-le, take_at, take-append-le, take-take, drop_at, drop-drop}
use Rattle.text.specs.Lay.{full, fits, over, laid, behind, Lays}

module _ (out : List ℕ) (at : ℕ) where
  module _ (text : List ℕ) {count : ℕ} (long : length text ≡ count) where
    pub lays_whole : leb (at + count) (length out) ≡ true → Lays text out at (at + count) (over out at text)
    unfolding laid behind
    lays_whole h = record { is = rw (long, h); leaves = rw (long, h) }

    pub lays_nothing : leb (at + count) (length out) ≡ false → Lays text out at full out
    unfolding laid behind
    lays_nothing h = record { is = rw (long, h); leaves = rw (long, h) }

  -- one byte stored is one byte laid
  pub over_one : (b : ℕ) → at < length out → set out at b ≡ over out at (b ∷ [])
  over_one b h = rw (add-one, append_snoc) (set_split out at b h)

  module _ (text : List ℕ) where
    length_front : at + length text ≤ length out → length (take at out ++ text) ≡ at + length text
    length_front h = length-append (take at out) text ∙ ap (λ (k : ℕ). k + length text) (length-take-le at out (omega arith))

    length_over : at + length text ≤ length out → length (over out at text) ≡ length out
    length_over h =
        let parts : length (over out at text) ≡ length (take at out ++ text) + length (drop (at + length text) out) =
        length-append (take at out ++ text) (drop (at + length text) out)
        in
        omega (arith, parts, length_front h, length-drop (at + length text) out)

-- the two ways in which a text is laid
data Ways (text out : List ℕ) (at answer : ℕ) (after : List ℕ) : Type 0 where
  whole : at + length text ≤ length out → answer ≡ at + length text → after ≡ over out at text → Ways text out at answer after
  nothing : length out < at + length text → answer ≡ full → after ≡ out → Ways text out at answer after

module _ (text out : List ℕ) (at answer : ℕ) (after : List ℕ) (l : Lays text out at answer after) where
  ways : Ways text out at answer after
  unfolding laid behind
  ways = by (fits out at text) refl
    where
      by : (t : Bool) → fits out at text ≡ t → Ways text out at answer after
      by true e = whole (leb-true _ _ e) (rw e at l.is) (rw e at l.leaves)
      by false e = nothing (leb-false _ _ e) (rw e at l.is) (rw e at l.leaves)

  -- what stands before the place stays
  kept_by : (n : ℕ) → n ≤ at → Ways text out at answer after → take n after ≡ take n out
  kept_by n h (whole k p q) =
      let long : n ≤ length (take at out) = rw (length-take-le at out (omega arith)) h in
      let longer : n ≤ length (take at out ++ text) = rw (length-append (take at out) text) (omega arith) in
      rw (q, take-append-le n (take at out ++ text) (drop (at + length text) out) longer, take-append-le n (take at out) text long, take-take n at out h)
  kept_by n h (nothing k p q) = ap (λ (s : List ℕ). take n s) q

  pub kept : (n : ℕ) → n ≤ at → take n after ≡ take n out
  kept n h = kept_by n h ways

module _ (a b out : List ℕ) (at : ℕ) where
  over_both : at + (length a + length b) ≤ length out → over (over out at a) (at + length a) b ≡ over out at (a ++ b)
  over_both h =
      let front : List ℕ = take at out ++ a in
      let end : ℕ = at + length a in
      let long : length front ≡ end = length_front out at a (omega arith) in
      let rest : drop (end + length b) (front ++ drop end out) ≡ drop (end + length b) out =
      sym (drop-drop (length b) end (front ++ drop end out))
      ∙ ap (λ (s : List ℕ). drop (length b) s) (drop_at front (drop end out) end long)
      ∙ drop-drop (length b) end out
      in
      rw (take_at front (drop end out) end long, rest, length-append, ← add_assoc, append_assoc (take at out) a b)

-- two texts, the second laid behind the first, are the two joined: the same place is answered, and the buffer is the same unless that is `full`
pub record Joined (a b out : List ℕ) (at last : ℕ) (after : List ℕ) : Type 0 where
  pub is : last ≡ behind out at (a ++ b)
  pub leaves : (last ≡ full → ⊥) → after ≡ laid out at (a ++ b)

module _ (a b out : List ℕ) (at first : ℕ) (between : List ℕ) (last : ℕ) (after : List ℕ) (room : length out < full) where
  too_long_lem : length out < at + length (a ++ b) → last ≡ full → Joined a b out at last after
  too_long_lem h e = record { is = e ∙ (lays_nothing out at (a ++ b) refl (lt-leb _ _ h)).is; leaves = λ f. absurd (f e) }

  joined : Ways a out at first between → Ways b between first last after → Joined a b out at last after
  joined (whole h p q) (whole k r s) =
      let same : length between ≡ length out = ap length q ∙ length_over out at a h in
      let all : at + (length a + length b) ≤ length out = omega arith in
      let fit : at + length (a ++ b) ≤ length out = rw (length-append a b) all in
      let w = lays_whole out at (a ++ b) refl (le-leb _ _ fit) in
      let end : last ≡ at + length (a ++ b) = rw (length-append a b) (omega arith) in
      let text : after ≡ over out at (a ++ b) = s ∙ rw (q, p) (over_both a b out at all) in
      record { is = end ∙ w.is; leaves = λ f. text ∙ w.leaves }
  joined (whole h p q) (nothing k r s) =
      let same : length between ≡ length out = ap length q ∙ length_over out at a h in
      too_long_lem (rw (length-append a b) (omega arith)) r
  joined (nothing h p q) (whole k r s) =
      let same : length between ≡ length out = ap length q in
      absurd (omega arith)
  joined (nothing h p q) (nothing k r s) = too_long_lem (rw (length-append a b) (omega arith)) r

  pub lays_both : Lays a out at first between → Lays b between first last after → Joined a b out at last after
  lays_both l m = joined (ways a out at first between l) (ways b between first last after m)

  pub lays_all : at + (length a + length b) ≤ length out → Lays a out at first between → Lays b between first last after → Lays (a ++ b) out at last after
  lays_all h l m =
      let j = lays_both l m in
      let fit : at + length (a ++ b) ≤ length out = rw (length-append a b) h in
      let end : last ≡ at + length (a ++ b) = j.is ∙ sym (lays_whole out at (a ++ b) refl (le-leb _ _ fit)).is in
      record { is = j.is; leaves = j.leaves (λ e. absurd (omega arith)) }
