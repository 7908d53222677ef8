-- A level with new items put in, wherever it stands: its walk comes to the old rows, moved, and the new ones among them. Assumes nothing.
use Prim.Native.Nat.{ℕ, ◌+◌, ◌-◌, ◌*◌, ◌<◌, ◌≤◌}
use mathlib.Core.Path.{◌≡◌, refl, sym, ap, ◌∙◌, subst}
use mathlib.Core.Bool.{Bool, true, false}
use mathlib.Core.List.{List, [], ◌++◌, map, map-append}
use native.Mathlib.Decide.{dec_le}
use native.Mathlib.Omega.{arith}
use borrow.Author.Tests.{le-leb}
use lib.ListN.{length}
use Rattle.klv.specs.declared.KLV.{KLV}
use Rattle.klv.specs.Item.{data_len, aligned, next_at, laid_out, Padded, whole, missing}
use Rattle.klv.specs.OneText.{type_text}
use Rattle.klv.specs.Level.{Level, items_of}
use Rattle.reading.specs.Last.{last_item}
use Rattle.reading.specs.Record.{Group, named, Record}
use Rattle.reading.specs.Walk as Walk
use Rattle.reading.specs.Walk.{Role, empty, container, type_item, row_item, role_of, item_headers, Spot, type_after, after, Outcome, accepted, by_role, item_outcome, walk, walk_item}
use Rattle.reading.proofs.Role.{role_empty, role_container, Means, role_means}
use Rattle.reading.proofs.Walk.{node_accepted}
use Rattle.newer_camera.specs.PutIn.{IsNew, IsOld, Matches, Reached, PutIn, nothing, new, behind, inside}
use Rattle.newer_camera.specs.Rows.{group_in, rows_from, put_before, moved_by}
use Rattle.newer_camera.proofs.Put.{long, none_in, fours, new_level, old_level, behind_level, inside_level, put_low, put_high, agree_same, agree_key, agree_put}
use Rattle.newer_camera.proofs.Grown.{Grown, then_grown, no_rows, not_type, new_grown, group_by, container_grown}
use Rattle.newer_camera.proofs.Same.{Alike, alike_inside, alike_after, item_same, again}

-- an item that is no TYPE leaves the TYPE in force
keeps_type : (h : KLV) (payload : List ℕ) (here : Spot) → (type_text h ≡ true → (h.data_type ≡ 0 → ⊥) → ⊥) → type_after (role_of h) payload here ≡ here.type
keeps_type h payload here no_text = go (role_of h) (role_means h)
  where
    go : (role : Role) → Means h role → type_after role payload here ≡ here.type
    go empty m = refl
    go container m = refl
    go type_item m = absurd (no_text m.2 m.1)
    go row_item m = refl

-- a new item is none
pub new_keeps_type : {h : KLV} {payload padding : List ℕ} → IsNew h payload padding → (other : List ℕ) (here : Spot) → type_after (role_of h) other here ≡ here.type
new_keeps_type {h = h} i other here = keeps_type h other here (λ text z. let o = not_type h i.not_type in let y : ◌≡◌ {A = ℕ} 0 1 = cc in omega arith)

-- nor is a container
pub container_keeps_type : (h : KLV) (payload : List ℕ) (here : Spot) → h.data_type ≡ 0 → type_after (role_of h) payload here ≡ here.type
container_keeps_type h payload here e = keeps_type h payload here (λ text z. z e)

-- nothing put in, no new rows
none_new : (forced : Bool) {s t : List ℕ} (put : PutIn s t) (here : Spot) → length s ≡ 0 → rows_from forced put here ≡ []
unfolding rows_from
none_new forced nothing here z = refl
none_new forced (new i front put) here z = absurd (omega arith)
none_new forced (behind {h = h} {payload = payload} {padding = padding} {s = s} i put) here z = absurd (omega (arith, long h payload padding s))
none_new forced (inside {h = h} {payload = payload} {padding = padding} {s = s} i m within put) here z = absurd (omega (arith, long h payload padding s))

-- a place behind an item lies in the level, though the item's padding may be missing
reach : (h : KLV) (payload padding s : List ℕ) (c from : ℕ) → Padded (length payload) padding s → from + 8 + aligned (length payload) ≤ c → c < from + 8 + aligned (length payload) + length s
    → c < from + length (laid_out h payload padding ++ s)
reach h payload padding s c from (whole e) l m = let n = long h payload padding s in omega arith
reach h payload padding [] c from (missing e) l m = absurd (omega arith)

module _ (forced : Bool) (by : ℕ → ℕ) where
  -- in a level, what moves a place is what was put into the level at or before it, and δ bytes in front of the level
  abbrev Local : {s t : List ℕ} → PutIn s t → ℕ → ℕ → Type 0
  Local {s = s} put from δ = (c : ℕ) → from ≤ c → c < from + length s → by c ≡ put_before put from c + δ

  abbrev pub Grows : {s t : List ℕ} → PutIn s t → Type 0
  Grows {s = s} {t = t} put =
      (here there : Spot) (δ : ℕ) → Alike by here there → there.place ≡ here.place + δ → Local put here.place δ
      → (room : ℕ) (rs : List Record) (k : ℕ) → walk forced (items_of s) here room ≡ accepted rs k → Grown (map (moved_by by) rs) (rows_from forced put there) (walk forced (items_of t) there)

  grow_nothing : (s : List ℕ) → Grows (nothing {s = s})
  unfolding put_before rows_from
  grow_nothing s here there δ alike moves local room rs k e = again by forced (items_of s) s here there δ refl alike moves (λ c l m. let o = local c l m in omega arith) room rs k e

  grow_new : {h : KLV} {payload padding s t : List ℕ} (i : IsNew h payload padding) (front : Reached s) (put : PutIn s t) → Grows put → Grows (new i front put)
  unfolding put_before rows_from walk
  grow_new {h = h} {payload = payload} {padding = padding} {s = s} {t = t} i front put rest here there δ alike moves local room rs k e =
      let skipped : Alike by here (after there h payload) = record { depth = alike.depth; group = alike.group; type = new_keeps_type i payload there ∙ alike.type } in
      let second = rest here (after there h payload) (δ + (8 + aligned (data_len h))) skipped (omega arith)
      (λ c l m. let one = le-leb here.place c l in let two = rw one at (local c l m) in omega arith) room rs k e in
      rw (new_level i t)
      (then_grown (walk_item forced h payload (items_of payload) there) (walk forced (items_of t) (after there h payload)) (new_grown forced h payload (items_of payload) there i) second)

  grow_behind : {h : KLV} {payload padding s t : List ℕ} (i : IsOld h payload padding s) (put : PutIn s t) → Grows put → Grows (behind i put)
  unfolding put_before rows_from walk
  grow_behind {h = h} {payload = payload} {padding = padding} {s = s} {t = t} i put rest here there δ alike moves local room rs k e =
      let n = long h payload padding s in
      let is_long = i.whole.is_long in
      let within : Level = items_of payload in
      let both = node_accepted forced h payload within here room (items_of s) rs k (rw (old_level i) at e) in
      -- nothing is put in before what stands behind the item
      let still : (c : ℕ) → here.place ≤ c → c < next_at here.place h → c < here.place + length (laid_out h payload padding ++ s) → by c ≡ δ =
      λ c l m o. (let one = local c l o in let two = put_low put (next_at here.place h) c m in omega arith) in
      let here-still = still here.place (omega arith) (omega arith) (omega arith) in
      let place : there.place ≡ here.place + by here.place = omega arith in
      let first = item_same by here there alike forced h payload within room both.first both.first_headers place
      (λ group j q. again by forced within payload (Walk.inside here group) (Walk.inside there group) δ refl (alike_inside by here there alike group) (omega arith)
      (λ c l m. still c (omega arith) (omega arith) (omega arith)) room both.first j q) both.is_first in
      let second = rest (after here h payload) (after there h payload) δ (alike_after by here there alike h payload place) (omega arith)
      (λ c l m. local c (omega arith) (reach h payload padding s c here.place i.padded (rw (← is_long) l) (rw (← is_long) m)))
      (room - length both.first) both.second both.second_headers both.is_second in
      rw (both.records, map-append, behind_level i put)
      (then_grown (walk_item forced h payload within there) (walk forced (items_of t) (after there h payload)) first second)

  -- a container with more inside: entered as before, or empty as before
  inside_grown : {h g : KLV} {payload grown padding cushion s : List ℕ} (i : IsOld h payload padding s) (m : Matches h g grown padding cushion) (within : PutIn payload grown) (here there : Spot) (room : ℕ) (rs : List Record) (k : ℕ)
      → there.depth ≡ here.depth → there.group ≡ here.group
      → ((j : ℕ) → walk forced (items_of payload) (Walk.inside here (group_in forced there.group payload)) room ≡ accepted rs j
      → Grown (map (moved_by by) rs) (rows_from forced within (Walk.inside there (group_in forced there.group payload))) (walk forced (items_of grown) (Walk.inside there (group_in forced there.group payload))))
      → walk_item forced h payload (items_of payload) here room ≡ accepted rs k
      → Grown (map (moved_by by) rs) (rows_from forced within (Walk.inside there (group_in forced there.group payload))) (walk_item forced g grown (items_of grown) there)
  unfolding item_outcome
  inside_grown {h = h} {g = g} {payload = payload} {grown = grown} i m within here there room rs k depth group inner e = go (dec_le (data_len h) 0)
    where
      own : ℕ
      own = item_headers

      its : ℕ
      its = item_headers

      news : List Record
      news = rows_from forced within (Walk.inside there (group_in forced there.group payload))

      before : Role → Outcome
      before role = by_role own forced h payload (last_item (items_of payload) (here.place + 8)) (walk forced (items_of payload)) here room role

      Result : Role → Type 0
      Result role = Grown (map (moved_by by) rs) news (λ n. by_role its forced g grown (last_item (items_of grown) (there.place + 8)) (walk forced (items_of grown)) there n role)

      -- the group is the one around, or named by the same key, wherever the payload stands
      same_group : (b : Bool) → group_in b there.group payload ≡ group_by b here.group (last_item (items_of payload) (here.place + 8))
      same_group true = group
      same_group false = ap named (agree_key (agree_same (items_of payload) 0 (here.place + 8)))

      Inner : Group → Type 0
      Inner x = (j : ℕ) → walk forced (items_of payload) (Walk.inside here x) room ≡ accepted rs j → Grown (map (moved_by by) rs) news (walk forced (items_of grown) (Walk.inside there x))

      is_long : data_len h ≡ length payload
      is_long = i.whole.is_long

      as_long : data_len g ≡ length grown
      as_long = m.whole.is_long

      go : Dec (data_len h ≤ 0) → Result (role_of g)
      go (yes z) =
          let nothing_in : length grown ≡ 0 = none_in within (omega arith) in
          let skipped : before empty ≡ accepted rs k = subst (λ (role : Role). before role ≡ accepted rs k) (role_empty h (omega arith)) e in
          let none : rs ≡ [] = cc in
          let none_made : news ≡ [] = none_new forced within (Walk.inside there (group_in forced there.group payload)) (omega arith) in
          subst Result (sym (role_empty g (omega arith))) (rw (none, none_made) (no_rows (λ n. accepted [] its) its (λ n. refl)))
      go (no z) =
          let (j, q) = fours within in
          let entered : before container ≡ accepted rs k = subst (λ (role : Role). before role ≡ accepted rs k) (role_container h (λ y. omega arith) m.container) e in
          subst Result (sym (role_container g (λ y. omega arith) m.still_container))
          (container_grown forced own its h g payload grown (last_item (items_of payload) (here.place + 8)) (last_item (items_of grown) (there.place + 8)) (walk forced (items_of payload)) (walk forced (items_of grown)) here there
          room rs k depth group (agree_put (here.place + 8) (there.place + 8) within) (subst Inner (same_group forced) inner) entered)

  grow_inside : {h g : KLV} {payload grown padding cushion s t : List ℕ} (i : IsOld h payload padding s) (m : Matches h g grown padding cushion) (within : PutIn payload grown) (put : PutIn s t) → Grows within → Grows put
      → Grows (inside i m within put)
  unfolding put_before rows_from walk
  grow_inside {h = h} {g = g} {payload = payload} {grown = grown} {padding = padding} {s = s} {t = t} i m within put inner rest here there δ alike moves local room rs k e =
      let n = long h payload padding s in
      let is_long = i.whole.is_long in
      let as_long = m.whole.is_long in
      let (j, q) = fours within in
      let both = node_accepted forced h payload (items_of payload) here room (items_of s) rs k (rw (old_level i) at e) in
      let first = inside_grown i m within here there room both.first both.first_headers alike.depth alike.group
      (λ l r. inner (Walk.inside here (group_in forced there.group payload)) (Walk.inside there (group_in forced there.group payload)) δ (alike_inside by here there alike (group_in forced there.group payload)) (omega arith)
      (λ c a b. let one = local c (omega arith) (omega arith) in let two = put_low put (next_at here.place h) c (omega arith) in omega arith) room both.first l r)
      both.is_first in
      let type = container_keeps_type h payload here m.container in
      let same = container_keeps_type g grown there m.still_container in
      let later : Alike by (after here h payload) (after there g grown) = record { depth = alike.depth; group = alike.group; type = rw (type, same) alike.type } in
      let second = rest (after here h payload) (after there g grown) (δ + 4 * j) later (omega arith)
      (λ c a b. let one = local c (omega arith) (reach h payload padding s c here.place i.padded (rw (← is_long) a) (rw (← is_long) b)) in
      let two = put_high within (here.place + 8) c (omega arith) in omega arith)
      (room - length both.first) both.second both.second_headers both.is_second in
      rw (both.records, map-append, inside_level i m within put)
      (then_grown (walk_item forced g grown (items_of grown) there) (walk forced (items_of t) (after there g grown)) first second)

  -- A LEVEL with new items put in
  pub grow : {s t : List ℕ} (put : PutIn s t) → Grows put
  grow (nothing {s = s}) = grow_nothing s
  grow (new i front put) = grow_new i front put (grow put)
  grow (behind i put) = grow_behind i put (grow put)
  grow (inside i m within put) = grow_inside i m within put (grow within) (grow put)
