-- The same items elsewhere: where all their places are moved by one distance, so are their rows. Assumes nothing.
use Prim.Native.Nat.{ℕ, zero, suc, ◌+◌, ◌-◌, ◌<◌, ◌≤◌}
use Prim.Native.Char.{code}
use mathlib.Core.Path.{◌≡◌, refl, ap}
use mathlib.Core.Bool.{Bool, true, false, cond}
use mathlib.Core.List.{List, [], ◌∷◌, map, map-append}
use native.Mathlib.Omega.{arith}
use lib.Dec.{eqb}
use lib.ListN.{length}
use Rattle.klv.specs.declared.KLV.{KLV}
use Rattle.klv.specs.Item.{data_len}
use Rattle.klv.specs.Level.{Level, left, broken, node, items_of}
use Rattle.klv.proofs.Item.{item_lengths}
use Rattle.klv.proofs.Level.{of_node}
use Rattle.reading.specs.Last.{last_item}
use Rattle.reading.specs.Record.{Group, no_type, Record}
use Rattle.reading.specs.Walk.{Role, empty, container, type_item, row_item, role_of, item_headers, Spot, inside, type_after, after, record_of}
use Rattle.reading.specs.Walk.{accepted, row_outcome, by_role, item_outcome, walk, walk_item}
use Rattle.reading.proofs.Walk.{node_accepted}
use Rattle.newer_camera.specs.Rows.{moved_type, moved_by}
use Rattle.newer_camera.specs.OldReader.{neither, an_old}
use Rattle.newer_camera.proofs.Put.{agree_same}
use Rattle.newer_camera.proofs.Grown.{Grown, then_grown, no_rows, row_grown, container_grown}

-- by how much a place of the old payload is moved
module _ (by : ℕ → ℕ) where
  -- a spot, and the one that it is moved to, but for its place
  pub record Alike (here there : Spot) : Type 0 where
    pub depth : there.depth ≡ here.depth
    pub group : there.group ≡ here.group
    pub type : there.type ≡ moved_type by here.type

  module _ (here there : Spot) (alike : Alike here there) where
    pub alike_inside : (group : Group) → Alike (inside here group) (inside there group)
    alike_inside group = record { depth = ap (λ (d : ℕ). d + 1) alike.depth; group = refl; type = refl }

    pub alike_after : (h : KLV) (payload : List ℕ) → there.place ≡ here.place + by here.place → Alike (after here h payload) (after there h payload)
    alike_after h payload e = record { depth = alike.depth; group = alike.group; type = go (role_of h) }
      where
        go : (role : Role) → type_after role payload there ≡ moved_type by (type_after role payload here)
        go empty = alike.type
        go container = alike.type
        go type_item = rw e
        go row_item = alike.type

    same_record : (h : KLV) (payload : List ℕ) → there.place ≡ here.place + by here.place → record_of there h payload ≡ moved_by by (record_of here h payload)
    unfolding moved_by
    same_record h payload e =
        λ i. record {
          place = e i;
          type = shown (eqb h.data_type (code "?")) i;
          content = record { group = alike.group i; depth = alike.depth i; header = h; payload = payload };
        }
      where
        shown : (b : Bool) → cond b there.type no_type ≡ moved_type by (cond b here.type no_type)
        shown true = alike.type
        shown false = refl

    -- AN ITEM as it was
    pub item_same : (forced : Bool) (h : KLV) (payload : List ℕ) (within : Level) (room : ℕ) (rs : List Record) (k : ℕ) → there.place ≡ here.place + by here.place
        → ((group : Group) (j : ℕ) → walk forced within (inside here group) room ≡ accepted rs j → Grown (map (moved_by by) rs) [] (walk forced within (inside there group)))
        → walk_item forced h payload within here room ≡ accepted rs k → Grown (map (moved_by by) rs) [] (walk_item forced h payload within there)
    unfolding item_outcome
    item_same forced h payload within room rs k place inner e = go (role_of h) e
      where
        own : ℕ
        own = item_headers

        its : ℕ
        its = item_headers

        nothing : rs ≡ [] → Grown (map (moved_by by) rs) [] (λ m. accepted [] its)
        nothing none = rw none (no_rows (λ m. accepted [] its) its (λ m. refl))

        row : (m : ℕ) → row_outcome own m (record_of here h payload) ≡ accepted rs k → Grown (map (moved_by by) rs) [] (λ m. row_outcome its m (record_of there h payload))
        row zero o = let z : ◌≡◌ {A = ℕ} 0 1 = cc in absurd (omega arith)
        row (suc m) o =
            let one : rs ≡ record_of here h payload ∷ [] = cc in
            rw (one, ← same_record h payload place) (row_grown its (record_of there h payload) (an_old neither))

        go : (role : Role) → by_role own forced h payload (last_item within (here.place + 8)) (walk forced within) here room role ≡ accepted rs k
            → Grown (map (moved_by by) rs) [] (λ m. by_role its forced h payload (last_item within (there.place + 8)) (walk forced within) there m role)
        go empty o = nothing (cc)
        go type_item o = nothing (cc)
        go row_item o = row room o
        go container o =
            container_grown forced own its h h payload payload (last_item within (here.place + 8)) (last_item within (there.place + 8)) (walk forced within) (walk forced within) here there room rs k
            alike.depth alike.group (agree_same within (here.place + 8) (there.place + 8)) (inner _) o

  -- A LEVEL as it was, in any bytes that it comes of
  abbrev Again : Bool → Level → Type 0
  Again forced level =
      (s : List ℕ) (here there : Spot) (δ : ℕ) → items_of s ≡ level → Alike here there → there.place ≡ here.place + δ
      → ((c : ℕ) → here.place ≤ c → c < here.place + length s → by c ≡ δ)
      → (room : ℕ) (rs : List Record) (k : ℕ) → walk forced level here room ≡ accepted rs k → Grown (map (moved_by by) rs) [] (walk forced level there)

  again_node : (forced : Bool) (h : KLV) (payload : List ℕ) (within behind : Level) → Again forced within → Again forced behind → Again forced (node h payload within behind)
  unfolding walk
  again_node forced h payload within behind inner rest s here there δ t alike moves far room rs k e =
      let w = of_node s h payload within behind t in
      let n = item_lengths s h payload w.rest w.is_item in
      let is_data : length payload ≡ data_len h = n.is_data in
      let in_s : 8 + length payload ≤ length s = n.payload in
      let its_rest = n.rest in
      let both = node_accepted forced h payload within here room behind rs k e in
      let here-far = far here.place (omega arith) (omega arith) in
      let place : there.place ≡ here.place + by here.place = omega arith in
      let first = item_same here there alike forced h payload within room both.first both.first_headers place
      (λ group j q. inner payload (inside here group) (inside there group) δ w.is_inside (alike_inside here there alike group) (omega arith) (λ c l m. far c (omega arith) (omega arith)) room both.first j q)
      both.is_first in
      let second = rest w.rest (after here h payload) (after there h payload) δ w.is_behind (alike_after here there alike h payload place) (omega arith) (λ c l m. far c (omega arith) (omega arith))
      (room - length both.first) both.second both.second_headers both.is_second in
      rw (both.records, map-append) (then_grown (walk_item forced h payload within there) (walk forced behind (after there h payload)) first second)

  pub again : (forced : Bool) (level : Level) → Again forced level
  unfolding walk
  again forced (left n) = λ s here there δ t alike moves far room rs k e. (let none : rs ≡ [] = cc in rw none (no_rows (λ m. accepted [] 0) 0 (λ m. refl)))
  again forced broken = λ s here there δ t alike moves far room rs k e. (let z : ◌≡◌ {A = ℕ} 0 1 = cc in absurd (omega arith))
  again forced (node h payload within behind) = again_node forced h payload within behind (again forced within) (again forced behind)
