-- Other payload bytes in new items: every old row stands where it stood, and the whole answer, in numbers, is the same. Assumes nothing.
use Prim.Native.Nat.{ℕ, zero, suc, ◌+◌, ◌-◌}
use mathlib.Core.Path.{◌≡◌, refl, sym, ap, ap₂, ◌∙◌}
use mathlib.Core.Bool.{Bool, true, false, cond}
use mathlib.Core.List.{List, [], ◌∷◌, ◌++◌, map, map-append}
use native.Mathlib.Omega.{arith}
use lib.Dec.{ltb, leb}
use lib.ListN.{length}
use Rattle.klv.specs.declared.KLV.{KLV}
use Rattle.klv.specs.Item.{header_length, data_len, aligned, next_at}
use Rattle.klv.specs.Level.{Level, items_of}
use Rattle.reading.specs.Refusal.{too_long, number, most_bytes}
use Rattle.reading.specs.Last.{Last, last, or_else, last_item}
use Rattle.reading.specs.Record.{TypeInForce, Record, numbers}
use Rattle.reading.specs.Walk as Walk
use Rattle.reading.specs.Walk.{Role, empty, container, type_item, row_item, role_of, item_headers, Spot, outermost, after, record_of, Entry, enter, refuse, entry}
use Rattle.reading.specs.Walk.{Outcome, accepted, refused, in_front, and_then, around, row_outcome, entered, by_role, item_outcome, walk, walk_item, reading_of}
use Rattle.reading.specs.Answer.{refusal, answer}
use Rattle.reading.proofs.Role.{Means, role_means}
use Rattle.newer_camera.specs.PutIn.{IsNew, Matches, PutIn}
use Rattle.newer_camera.specs.Rows.{put_before, moved_by, moved}
use Rattle.newer_camera.specs.OtherBytes.{OtherBytes, in_nothing, in_new, behind_old, inside_old, put_again}
use Rattle.newer_camera.proofs.Put.{long, new_level, behind_level, inside_level}
use Rattle.newer_camera.proofs.Grow.{new_keeps_type, container_keeps_type}

-- ---- the old rows

as_many : {s t u : List ℕ} {put : PutIn s t} (o : OtherBytes s t put u) (from c : ℕ) → put_before (put_again o) from c ≡ put_before put from c
unfolding put_before put_again
as_many in_nothing from c = refl
as_many (in_new {h = h} j o) from c = ap (λ n. cond (leb from c) (header_length + aligned (data_len h)) 0 + n) (as_many o from c)
as_many (behind_old {h = h} o) from c = as_many o (next_at from h) c
as_many (inside_old {h = h} m w o) from c =
    ap₂ ◌+◌ (as_many w (from + 8) c) (as_many o (next_at from h) c)

-- NO OLD ROW IS ALTERED
pub old_unaltered : {s t u : List ℕ} {put : PutIn s t} (o : OtherBytes s t put u) (r : Record) → moved (put_again o) r ≡ moved put r
old_unaltered o r = ap (λ (by : ℕ → ℕ). moved_by by r) (λ i c. as_many o 0 c i)

-- ---- answers put together

pub same_length : (rs ts : List Record) → map numbers rs ≡ map numbers ts → length rs ≡ length ts
same_length [] [] e = refl
same_length [] (t ∷ ts) e = let z : ◌≡◌ {A = ℕ} 0 1 = cc in absurd (omega arith)
same_length (r ∷ rs) [] e = let z : ◌≡◌ {A = ℕ} 0 1 = cc in absurd (omega arith)
same_length (r ∷ rs) (t ∷ ts) e = let n = same_length rs ts (cc) in omega arith

answer_front : (rs ts : List Record) (k : ℕ) (o p : Outcome) → map numbers rs ≡ map numbers ts → answer o ≡ answer p → answer (in_front rs k o) ≡ answer (in_front ts k p)
answer_front rs ts k (accepted us j) (accepted vs l) n e =
    let us_vs : map numbers us ≡ map numbers vs = cc in
    let j_l : j ≡ l = cc in
    let first : map numbers (rs ++ us) ≡ map numbers rs ++ map numbers us = map-append numbers rs us in
    let second : map numbers (ts ++ vs) ≡ map numbers ts ++ map numbers vs = map-append numbers ts vs in
    rw (first, second, n, us_vs, j_l)
answer_front rs ts k (accepted us j) (refused why at) n e = let z : ◌≡◌ {A = ℕ} 0 1 = cc in absurd (omega arith)
answer_front rs ts k (refused why at) (accepted vs l) n e = let z : ◌≡◌ {A = ℕ} 0 1 = cc in absurd (omega arith)
answer_front rs ts k (refused why at) (refused w p) n e = e

answer_then : (o p : Outcome) (f g : ℕ → Outcome) → answer o ≡ answer p → ((n : ℕ) → answer (f n) ≡ answer (g n)) → answer (and_then o f) ≡ answer (and_then p g)
answer_then (accepted rs k) (accepted ts j) f g e same =
    let n : map numbers rs ≡ map numbers ts = cc in
    let k_j : k ≡ j = cc in
    rw (k_j, same_length rs ts n) (answer_front rs ts j (f (length ts)) (g (length ts)) n (same (length ts)))
answer_then (accepted rs k) (refused why at) f g e same = let z : ◌≡◌ {A = ℕ} 0 1 = cc in absurd (omega arith)
answer_then (refused why at) (accepted ts j) f g e same = let z : ◌≡◌ {A = ℕ} 0 1 = cc in absurd (omega arith)
answer_then (refused why at) (refused w p) f g e same = e

answer_around : (headers at : ℕ) (o p : Outcome) → answer o ≡ answer p → answer (around headers at o) ≡ answer (around headers at p)
answer_around headers at (accepted rs k) (accepted ts j) e =
    let n : map numbers rs ≡ map numbers ts = cc in
    let k_j : k ≡ j = cc in
    rw (k_j, n)
answer_around headers at (accepted rs k) (refused why p) e = let z : ◌≡◌ {A = ℕ} 0 1 = cc in absurd (omega arith)
answer_around headers at (refused why p) (accepted ts j) e = let z : ◌≡◌ {A = ℕ} 0 1 = cc in absurd (omega arith)
answer_around headers at (refused why p) (refused w q) e =
    let n : number why ≡ number w = cc in
    ap (λ (x : ℕ). refusal x at) n

-- ---- the walk

-- behind a new item all is as it was before
spot_behind_lem : {h : KLV} {payload padding : List ℕ} → IsNew h payload padding → (other : List ℕ) (here : Spot) → after here h other ≡ after here h payload
spot_behind_lem {h = h} {payload = payload} i other here =
    ap (λ (type : TypeInForce). record { place = next_at here.place h; depth = here.depth; group = here.group; type = type })
    (new_keeps_type i other here ∙ sym (new_keeps_type i payload here))

-- and behind a container
spot_past : {h g : KLV} {grown padding cushion : List ℕ} → Matches h g grown padding cushion → (other : List ℕ) (here : Spot) → after here g other ≡ after here g grown
spot_past {g = g} {grown = grown} m other here =
    ap (λ (type : TypeInForce). record { place = next_at here.place g; depth = here.depth; group = here.group; type = type })
    (container_keeps_type g other here m.still_container ∙ sym (container_keeps_type g grown here m.still_container))

-- the chain steps from header to header
chain_same : {s t u : List ℕ} {put : PutIn s t} (o : OtherBytes s t put u) (at : ℕ) → last_item (items_of u) at ≡ last_item (items_of t) at
unfolding last_item
chain_same in_nothing at = refl
chain_same (in_new {h = h} {t = t} {u = u} {i = i} j o) at = rw (new_level j u, new_level i t) (ap (or_else (last at h)) (chain_same o (next_at at h)))
chain_same (behind_old {h = h} {i = i} {put = put} o) at = rw (behind_level i (put_again o), behind_level i put) (ap (or_else (last at h)) (chain_same o (next_at at h)))
chain_same (inside_old {g = g} {i = i} {m = n} {within = within} {put = put} m w o) at =
    rw (inside_level i m (put_again w) (put_again o), inside_level i n within put) (ap (or_else (last at g)) (chain_same o (next_at at g)))

module _ (forced : Bool) where
  -- a new item's row has no number that its payload settles
  new_same : {h : KLV} {payload padding : List ℕ} → IsNew h payload padding → (other : List ℕ) (within inner : Level) (here : Spot) (room : ℕ)
      → answer (walk_item forced h other inner here room) ≡ answer (walk_item forced h payload within here room)
  unfolding item_outcome numbers
  new_same {h = h} {payload = payload} i other within inner here room = go (role_of h) (role_means h)
    where
      own : ℕ
      own = item_headers

      row : (m : ℕ) → answer (row_outcome own m (record_of here h other)) ≡ answer (row_outcome own m (record_of here h payload))
      row zero = refl
      row (suc m) = refl

      go : (role : Role) → Means h role
          → answer (by_role own forced h other (last_item inner (here.place + 8)) (walk forced inner) here room role)
          ≡ answer (by_role own forced h payload (last_item within (here.place + 8)) (walk forced within) here room role)
      go empty m = refl
      go container m = absurd (i.no_container m.1)
      go type_item m = refl
      go row_item m = row room

  -- a container's rows are those of its payload
  container_same : {h g : KLV} {grown padding cushion : List ℕ} → Matches h g grown padding cushion → (other : List ℕ) (within inner : Level) (here : Spot) (room : ℕ)
      → last_item inner (here.place + 8) ≡ last_item within (here.place + 8) → ((x : Spot) → answer (walk forced inner x room) ≡ answer (walk forced within x room))
      → answer (walk_item forced g other inner here room) ≡ answer (walk_item forced g grown within here room)
  unfolding item_outcome
  container_same {g = g} {grown = grown} m other within inner here room chain same = rw chain (go (role_of g) (role_means g))
    where
      own : ℕ
      own = item_headers

      was : Last
      was = last_item within (here.place + 8)

      by_entry : (e : Entry) → answer (entered own forced g other was (walk forced inner) here room e) ≡ answer (entered own forced g grown was (walk forced within) here room e)
      by_entry (enter group) = answer_around own here.place (walk forced inner (Walk.inside here group) room) (walk forced within (Walk.inside here group) room) (same (Walk.inside here group))
      by_entry (refuse why) = refl

      go : (role : Role) → Means g role
          → answer (by_role own forced g other was (walk forced inner) here room role) ≡ answer (by_role own forced g grown was (walk forced within) here room role)
      go empty k = refl
      go container k = by_entry (entry forced here.depth here.group was)
      go type_item k = absurd (k.1 m.still_container)
      go row_item k = absurd (k.1 m.still_container)

  walk_same : {s t u : List ℕ} {put : PutIn s t} → OtherBytes s t put u → (here : Spot) (room : ℕ) → answer (walk forced (items_of u) here room) ≡ answer (walk forced (items_of t) here room)
  unfolding walk
  walk_same in_nothing here room = refl
  walk_same (in_new {h = h} {payload = payload} {other = other} {t = t} {u = u} {i = i} j o) here room =
      rw (new_level j u, new_level i t, spot_behind_lem i other here)
      (answer_then (walk_item forced h other (items_of other) here room) (walk_item forced h payload (items_of payload) here room)
      (λ n. walk forced (items_of u) (after here h payload) (room - n)) (λ n. walk forced (items_of t) (after here h payload) (room - n))
      (new_same i other (items_of payload) (items_of other) here room) (λ n. walk_same o (after here h payload) (room - n)))
  walk_same (behind_old {h = h} {payload = payload} {t = t} {u = u} {i = i} {put = put} o) here room =
      rw (behind_level i (put_again o), behind_level i put)
      (answer_then (walk_item forced h payload (items_of payload) here room) (walk_item forced h payload (items_of payload) here room)
      (λ n. walk forced (items_of u) (after here h payload) (room - n)) (λ n. walk forced (items_of t) (after here h payload) (room - n)) refl (λ n. walk_same o (after here h payload) (room - n)))
  walk_same (inside_old {g = g} {grown = grown} {other = other} {t = t} {u = u} {i = i} {m = k} {within = within} {put = put} m w o) here room =
      rw (inside_level i m (put_again w) (put_again o), inside_level i k within put, spot_past k other here)
      (answer_then (walk_item forced g other (items_of other) here room) (walk_item forced g grown (items_of grown) here room)
      (λ n. walk forced (items_of u) (after here g grown) (room - n)) (λ n. walk forced (items_of t) (after here g grown) (room - n))
      (container_same k other (items_of grown) (items_of other) here room (chain_same w (here.place + 8)) (λ x. walk_same w x room)) (λ n. walk_same o (after here g grown) (room - n)))

as_long : {s t u : List ℕ} {put : PutIn s t} → OtherBytes s t put u → length u ≡ length t
as_long in_nothing = refl
as_long (in_new {h = h} {payload = payload} {padding = padding} {other = other} {cushion = cushion} {t = t} {u = u} {i = i} j o) =
    let rest = as_long o in
    omega (arith, long h other cushion u, long h payload padding t, i.padded, j.padded, i.whole.is_long, j.whole.is_long)
as_long (behind_old {h = h} {payload = payload} {padding = padding} {t = t} {u = u} o) =
    let rest = as_long o in
    omega (arith, long h payload padding u, long h payload padding t)
as_long (inside_old {g = g} {grown = grown} {other = other} {cushion = cushion} {filling = filling} {t = t} {u = u} {m = k} m w o) =
    let rest = as_long o in
    omega (arith, long g other filling u, long g grown cushion t, k.whole.is_long, m.whole.is_long, k.padded_alike, m.padded_alike)

-- THE ANSWER IS THE SAME, in numbers: every row, the headers, or the refusal and its place
pub answer_unaltered : {s t u : List ℕ} {put : PutIn s t} → OtherBytes s t put u → (forced : Bool) (room : ℕ) → answer (reading_of forced u room) ≡ answer (reading_of forced t room)
unfolding reading_of
answer_unaltered {t = t} {u = u} o forced room = rw (as_long o) (go (ltb most_bytes (length t)))
  where
    go : (b : Bool) → answer (cond b (refused too_long 0) (walk forced (items_of u) outermost room)) ≡ answer (cond b (refused too_long 0) (walk forced (items_of t) outermost room))
    go true = refl
    go false = walk_same forced o outermost room
