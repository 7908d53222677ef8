-- The headers that a reading reports are as many as its items. Assumes nothing.
use Prim.Native.Nat.{ℕ, ◌+◌, ◌-◌}
use mathlib.Core.Path.{◌≡◌, ap, ◌∙◌}
use mathlib.Core.List.{List}
use mathlib.Core.Bool.{Bool}
use native.Mathlib.Omega.{arith}
use lib.ListN.{length}
use Rattle.klv.specs.declared.KLV.{KLV}
use Rattle.klv.specs.Level.{Level, left, broken, node, items_of}
use Rattle.reading.specs.Record.{Record}
use Rattle.reading.specs.Walk.{role_of, Spot, outermost, inside, after, accepted, walk, reading_of}
use Rattle.reading.specs.Count.{items_on, in_container, items_below, headers_by_items}
use Rattle.reading.proofs.Payload.{read_accepted}
use Rattle.reading.proofs.Walk.{item_accepted, node_accepted}

module _ (forced : Bool) where
  -- one for each item of the level, and for each item below it
  abbrev Counts : Level → Type 0
  Counts level = (here : Spot) (room : ℕ) (rs : List Record) (k : ℕ) → walk forced level here room ≡ accepted rs k → k ≡ items_on level + items_below level

  counts_node : (h : KLV) (payload : List ℕ) (within behind : Level) → Counts within → Counts behind → Counts (node h payload within behind)
  unfolding items_on items_below
  counts_node h payload within behind inner rest here room rs k e =
      let n : ℕ = items_on within + items_below within in
      let both = node_accepted forced h payload within here room behind rs k e in
      let first : both.first_headers ≡ 1 + in_container (role_of h) n =
      item_accepted forced h payload within here room (λ role ts j. j ≡ 1 + in_container role n) (omega arith) (omega arith) (λ some. omega arith)
      (λ group ts j q. ap (λ (x : ℕ). 1 + x) (inner (inside here group) room ts j q))
      both.first both.first_headers both.is_first in
      let second = rest (after here h payload) (room - length both.first) both.second both.second_headers both.is_second in
      both.headers_are ∙ rw (first, second) (omega arith)

  counts : (level : Level) → Counts level
  unfolding walk items_on items_below
  counts (left n) = λ here room rs k e. (let none : k ≡ 0 = cc in omega arith)
  counts broken = λ here room rs k e. (let o : ◌≡◌ {A = ℕ} 0 1 = cc in absurd (omega arith))
  counts (node h payload within behind) = counts_node h payload within behind (counts within) (counts behind)

-- an accepted reading has one header for each item
pub by_formula : (forced : Bool) (s : List ℕ) (room : ℕ) (rs : List Record) (headers : ℕ) → reading_of forced s room ≡ accepted rs headers → headers ≡ headers_by_items (items_of s)
unfolding headers_by_items
by_formula forced s room rs headers e = counts forced (items_of s) outermost room rs headers (read_accepted forced s room rs headers e)
