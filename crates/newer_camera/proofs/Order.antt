-- The rows of an accepted reading stand in the order of their places, and within the payload. Assumes nothing.
use Prim.Native.Nat.{ℕ, suc, ◌+◌, ◌-◌, ◌<◌, ◌≤◌}
use mathlib.Core.Path.{◌≡◌, refl}
use mathlib.Core.Bool.{Bool}
use mathlib.Core.List.{List, [], ◌∷◌, ◌++◌}
use native.Mathlib.Omega.{arith}
use lib.ListN.{length}
use Rattle.klv.specs.declared.KLV.{KLV}
use Rattle.klv.specs.Item.{next_at}
use Rattle.klv.specs.Level.{Level, left, broken, node, items_of}
use Rattle.klv.proofs.Item.{item_lengths}
use Rattle.klv.proofs.Level.{of_node}
use Rattle.reading.specs.Record.{Record}
use Rattle.reading.specs.Walk.{Spot, outermost, inside, after, accepted, walk, reading_of}
use Rattle.reading.proofs.Payload.{read_accepted}
use Rattle.reading.proofs.Walk.{item_accepted, node_accepted}
use Rattle.newer_camera.specs.OldReader.{InOrder}

-- from an earlier place
earlier : (rs : List Record) (from place end : ℕ) → from ≤ place → InOrder place end rs → InOrder from end rs
earlier [] from place end l o = tt
earlier (r ∷ rs) from place end l o = let first = o.0 in (omega arith, o.1, o.2)

-- up to a later end, where there is room for a row at all
later : (rs : List Record) (from end other : ℕ) → (from < end → end ≤ other) → InOrder from end rs → InOrder from other rs
later [] from end other l o = tt
later (r ∷ rs) from end other l o =
    let first = o.0 in
    let before = o.1 in
    let up : end ≤ other = l (omega arith) in
    (first, omega arith, later rs (suc r.place) end other (λ m. up) o.2)

-- some rows that end before others begin
join : (rs ts : List Record) (from mid next end : ℕ) → from ≤ mid → mid ≤ next → mid ≤ end → InOrder from mid rs → InOrder next end ts → InOrder from end (rs ++ ts)
join [] ts from mid next end l m n a b = earlier ts from next end (omega arith) b
join (r ∷ rs) ts from mid next end l m n a b = let before = a.1 in (a.0, omega arith, join rs ts (suc r.place) mid next end before m n a.2 b)

module _ (forced : Bool) where
  -- of the walk of a level, in any bytes that it comes of
  abbrev Ordered : Level → Type 0
  Ordered level = (s : List ℕ) → items_of s ≡ level → (here : Spot) (room : ℕ) (rs : List Record) (k : ℕ) → walk forced level here room ≡ accepted rs k → InOrder here.place (here.place + length s) rs

  ordered_node : (h : KLV) (payload : List ℕ) (within behind : Level) → Ordered within → Ordered behind → Ordered (node h payload within behind)
  ordered_node h payload within behind inner rest s t here room rs k e =
      let w = of_node s h payload within behind t in
      let n = item_lengths s h payload w.rest w.is_item in
      let both = node_accepted forced h payload within here room behind rs k e in
      let mid : ℕ = here.place + 8 + length payload in
      let first : InOrder here.place mid both.first =
      item_accepted forced h payload within here room (λ role ts j. InOrder here.place mid ts) tt tt (λ some. (omega arith, omega arith, tt))
      (λ group ts j q. earlier ts here.place (here.place + 8) mid (omega arith) (inner payload w.is_inside (inside here group) room ts j q))
      both.first both.first_headers both.is_first in
      let second = rest w.rest w.is_behind (after here h payload) (room - length both.first) both.second both.second_headers both.is_second in
      rw both.records (join both.first both.second here.place mid (next_at here.place h) (here.place + length s) (omega arith)
      (omega (arith, n.is_data)) (omega (arith, n.payload)) first
      (later both.second (next_at here.place h) (next_at here.place h + length w.rest) (here.place + length s) (λ l. omega (arith, n.rest, n.is_data)) second))

  ordered : (level : Level) → Ordered level
  unfolding walk
  ordered (left n) = λ s t here room rs k e. (let none : rs ≡ [] = cc in rw none tt)
  ordered broken = λ s t here room rs k e. (let o : ◌≡◌ {A = ℕ} 0 1 = cc in absurd (omega arith))
  ordered (node h payload within behind) = ordered_node h payload within behind (ordered within) (ordered behind)

-- THE ORDER of an accepted reading
pub read_in_order : (forced : Bool) (s : List ℕ) (room : ℕ) (rs : List Record) (headers : ℕ) → reading_of forced s room ≡ accepted rs headers → InOrder 0 (length s) rs
read_in_order forced s room rs headers e = later rs 0 (0 + length s) (length s) (λ l. omega arith) (ordered forced (items_of s) s refl outermost room rs headers (read_accepted forced s room rs headers e))
