-- REFUSAL 5 without the walk: it is given where there are more records than room, and its place is the start of the
-- outermost item in which the first record without room stands. Assumes nothing.
use Prim.Native.Nat.{ℕ, zero, suc, ◌+◌, ◌-◌, ◌<◌, ◌≤◌}
use mathlib.Core.Path.{◌≡◌, refl, sym, ap, subst, ◌∙◌}
use mathlib.Core.List.{List, [], ◌∷◌, ◌++◌}
use mathlib.Core.Bool.{Bool, true, false, cond}
use native.Mathlib.Nat.{not-suc-le-zero}
use native.Mathlib.Decide.{dec_le}
use native.Mathlib.Omega.{arith}
use borrow.Author.Tests.{lt-ltb, le-ltb}
use lib.Dec.{eqb, ltb}
use lib.ListN.{length}
use Rattle.klv.specs.declared.KLV.{KLV}
use Rattle.klv.specs.Item.{data_len, aligned, next_at}
use Rattle.klv.specs.Level.{Level, left, broken, node, items_of}
use Rattle.klv.proofs.Item.{item_lengths}
use Rattle.klv.proofs.Level.{Comes, of_node}
use Rattle.reading.specs.Refusal.{Refusal, too_long, past_end, left_over, too_deep, no_room_left, deepest}
use Rattle.reading.specs.Last.{Last, none, last, or_else, last_item}
use Rattle.reading.specs.Record.{named, Record}
use Rattle.reading.specs.Walk.{Role, empty, container, type_item, row_item, role_of, Spot, outermost, inside, after, Entry, enter, refuse, group_inside, entry}
use Rattle.reading.specs.Walk.{Outcome, accepted, refused, and_then, walk, walk_item, reading_of}
use Rattle.reading.specs.Free.{Ending, through, stopped, Free, later, joined, around_ending, free_entered, free_role, free, finished, place_of_record, outer_start, Reaches, Full}
use Rattle.reading.proofs.Payload.{read_within, read_long}
use Rattle.reading.proofs.Outcome.{in_front_refused}
use Rattle.reading.proofs.Walk.{item_refused}
use Rattle.reading.proofs.Reach.{all_there, reaches, item_reaches}

-- ---- no walk with all its room is stopped for want of room

abbrev Other : Refusal → Type 0
Other too_long = Unit {0}
Other past_end = Unit {0}
Other left_over = Unit {0}
Other too_deep = Unit {0}
Other no_room_left = ⊥

abbrev OtherEnd : Ending → Type 0
OtherEnd (through k) = Unit {0}
OtherEnd (stopped why at) = Other why

abbrev OtherLast : Last → Type 0
OtherLast none = Unit {0}
OtherLast (last at h) = Unit {0}
OtherLast (Last.stopped why at) = Other why

last_other : (level : Level) (at : ℕ) → OtherLast (last_item level at)
unfolding last_item
last_other (left zero) at = tt
last_other (left (suc n)) at = tt
last_other broken at = tt
last_other (node h payload within behind) at = go (last_item behind (next_at at h)) (last_other behind (next_at at h))
  where
    go : (l : Last) → OtherLast l → OtherLast (or_else (last at h) l)
    go none o = tt
    go (last p g) o = tt
    go (Last.stopped why p) o = o

around_other : (headers at : ℕ) (e : Ending) → OtherEnd e → OtherEnd (around_ending headers at e)
around_other headers at (through k) o = tt
around_other headers at (stopped why p) o = o

joined_other : (rs : List Record) (e : Ending) (g : Free) → OtherEnd e → OtherEnd g.ending → OtherEnd (joined rs e g).ending
joined_other rs (through k) g o p = go g.ending p
  where
    go : (e : Ending) → OtherEnd e → OtherEnd (later k e)
    go (through j) q = tt
    go (stopped why at) q = q
joined_other rs (stopped why at) g o p = o

-- ---- the records of some bytes stand between their start and their end

abbrev Between : ℕ → ℕ → List Record → Type 0
Between low high [] = Unit {0}
Between low high (r ∷ rs) = ((low ≤ r.place) × (r.place < high)) × Between low high rs

wider : (low high least most : ℕ) (rs : List Record) → least ≤ low → high ≤ most → Between low high rs → Between least most rs
wider low high least most [] a b t = tt
wider low high least most (r ∷ rs) a b t = ((omega (arith, t.0.0), omega (arith, t.0.1)), wider low high least most rs a b t.1)

both_between : (low high : ℕ) (rs ts : List Record) → Between low high rs → Between low high ts → Between low high (rs ++ ts)
both_between low high [] ts a b = b
both_between low high (r ∷ rs) ts a b = (a.0, both_between low high rs ts a.1 b)

joined_between : (low high : ℕ) (rs : List Record) (e : Ending) (g : Free) → Between low high rs → Between low high g.rows → Between low high (joined rs e g).rows
joined_between low high rs (through k) g a b = both_between low high rs g.rows a b
joined_between low high rs (stopped why at) g a b = a

record_between : (low high : ℕ) (rs : List Record) (n : ℕ) → n < length rs → Between low high rs → (low ≤ place_of_record rs n) × (place_of_record rs n < high)
record_between low high [] n l t = absurd (not-suc-le-zero l)
record_between low high (r ∷ rs) zero l t = t.0
record_between low high (r ∷ rs) (suc n) l t = record_between low high rs n (omega arith) t.1

-- the n-th of two lists
record_first : (rs ts : List Record) (n : ℕ) → n < length rs → place_of_record (rs ++ ts) n ≡ place_of_record rs n
record_first [] ts n l = absurd (not-suc-le-zero l)
record_first (r ∷ rs) ts zero l = refl
record_first (r ∷ rs) ts (suc n) l = record_first rs ts n (omega arith)

record_second : (rs ts : List Record) (n : ℕ) → length rs ≤ n → place_of_record (rs ++ ts) n ≡ place_of_record ts (n - length rs)
record_second [] ts n l = ap (place_of_record ts) (omega arith)
record_second (r ∷ rs) ts zero l = absurd (not-suc-le-zero l)
record_second (r ∷ rs) ts (suc n) l =
    let less : n - length rs ≡ suc n - suc (length rs) = omega arith in
    record_second rs ts n (omega arith) ∙ ap (place_of_record ts) less

record_joined : (rs : List Record) (e : Ending) (g : Free) (n : ℕ) → n < length rs → place_of_record (joined rs e g).rows n ≡ place_of_record rs n
record_joined rs (through k) g n l = record_first rs g.rows n l
record_joined rs (stopped why at) g n l = refl

module _ (forced : Bool) where
  -- an item, by what is known of its payload
  abbrev its : KLV → List ℕ → Level → Spot → Free
  its h payload within here = free_role forced h payload (last_item within (here.place + 8)) (free forced within) here (role_of h)

  abbrev Stays : Level → Type 0
  Stays level = (s : List ℕ) (here : Spot) → items_of s ≡ level → Between here.place (here.place + length s) (free forced level here).rows

  item_stays : (h : KLV) (payload : List ℕ) (within : Level) → items_of payload ≡ within → Stays within → (here : Spot) → Between here.place (here.place + 8 + length payload) (its h payload within here).rows
  item_stays h payload within is_inside inner here = by_role_lem (role_of h)
    where
      chain : Last
      chain = last_item within (here.place + 8)

      most : ℕ
      most = here.place + 8 + length payload

      by_entry : (x : Entry) → Between here.place most (free_entered forced h payload chain (free forced within) here x).rows
      by_entry (refuse why) = tt
      by_entry (enter group) =
          wider (here.place + 8) most here.place most (free forced within (inside here group)).rows (omega arith) (omega arith) (inner payload (inside here group) is_inside)

      by_role_lem : (role : Role) → Between here.place most (free_role forced h payload chain (free forced within) here role).rows
      by_role_lem empty = tt
      by_role_lem type_item = tt
      by_role_lem row_item = ((omega arith, omega arith), tt)
      by_role_lem container = by_entry (entry forced here.depth here.group chain)

  node_stays : (h : KLV) (payload : List ℕ) (within behind : Level) → Stays within → Stays behind → Stays (node h payload within behind)
  unfolding free
  node_stays h payload within behind inner rest s here t =
      let w = of_node s h payload within behind t in
      let n = item_lengths s h payload w.rest w.is_item in
      let next : ℕ = next_at here.place h in
      let later_ones : Between next (next + length w.rest) (free forced behind (after here h payload)).rows = rest w.rest (after here h payload) w.is_behind in
      joined_between here.place (here.place + length s) (its h payload within here).rows (its h payload within here).ending (free forced behind (after here h payload))
      (wider here.place (here.place + 8 + length payload) here.place (here.place + length s) (its h payload within here).rows (omega arith) (omega (arith, n.payload)) (item_stays h payload within w.is_inside inner here))
      (by_rest w.rest n.is_data n.rest later_ones)
    where
      -- missing padding leaves nothing after the item
      by_rest : (r : List ℕ) → length payload ≡ data_len h → length r ≡ length s - (8 + aligned (length payload)) → Between (next_at here.place h) (next_at here.place h + length r) (free forced behind (after here h payload)).rows
          → Between here.place (here.place + length s) (free forced behind (after here h payload)).rows
      by_rest r d l b = go (dec_le (8 + aligned (length payload)) (length s))
        where
          none_there : (rs : List Record) → length r ≡ 0 → Between (next_at here.place h) (next_at here.place h + length r) rs → Between here.place (here.place + length s) rs
          none_there [] z b = tt
          none_there (x ∷ rs) z b = absurd (omega (arith, b.0.0, b.0.1))

          go : Dec (8 + aligned (length payload) ≤ length s) → Between here.place (here.place + length s) (free forced behind (after here h payload)).rows
          go (yes m) = wider (next_at here.place h) (next_at here.place h + length r) here.place (here.place + length s) (free forced behind (after here h payload)).rows (omega arith) (omega (arith, ap aligned d)) b
          go (no m) = none_there (free forced behind (after here h payload)).rows (omega arith) b

  stays : (level : Level) → Stays level
  unfolding free
  stays (left n) = λ s here t. tt
  stays broken = λ s here t. tt
  stays (node h payload within behind) = node_stays h payload within behind (stays within) (stays behind)

  -- ---- what is stopped is not stopped for want of room

  abbrev Others : Level → Type 0
  Others level = (here : Spot) → OtherEnd (free forced level here).ending

  item_others : (h : KLV) (payload : List ℕ) (within : Level) → Others within → (here : Spot) → OtherEnd (its h payload within here).ending
  item_others h payload within inner here = by_role_lem (role_of h)
    where
      chain : Last
      chain = last_item within (here.place + 8)

      by_chain : (b : Bool) (l : Last) → OtherLast l → OtherEnd (free_entered forced h payload chain (free forced within) here (group_inside b here.group l)).ending
      by_chain true l o = around_other 1 here.place (free forced within (inside here here.group)).ending (inner (inside here here.group))
      by_chain false none o = around_other 1 here.place (free forced within (inside here (named 0))).ending (inner (inside here (named 0)))
      by_chain false (last at g) o = around_other 1 here.place (free forced within (inside here (named g.key))).ending (inner (inside here (named g.key)))
      by_chain false (Last.stopped why at) o = o

      by_depth : (b : Bool) → OtherEnd (free_entered forced h payload chain (free forced within) here (cond b (refuse too_deep) (group_inside forced here.group chain))).ending
      by_depth true = tt
      by_depth false = by_chain forced chain (last_other within (here.place + 8))

      by_role_lem : (role : Role) → OtherEnd (free_role forced h payload chain (free forced within) here role).ending
      by_role_lem empty = tt
      by_role_lem type_item = tt
      by_role_lem row_item = tt
      by_role_lem container = by_depth (eqb here.depth deepest)

  others : (level : Level) → Others level
  unfolding free
  others (left n) = λ here. tt
  others broken = λ here. tt
  others (node h payload within behind) =
      λ here. joined_other (its h payload within here).rows (its h payload within here).ending (free forced behind (after here h payload)) (item_others h payload within (others within) here) (others behind (after here h payload))

-- ---- refused for want of room, or not

not_full : (rs : List Record) (e : Ending) (at : ℕ) → OtherEnd e → finished rs e ≡ refused no_room_left at → ⊥
not_full rs (through k) at o q = let z : ◌≡◌ {A = ℕ} 0 1 = cc in omega arith
not_full rs (stopped too_long p) at o q = let z : ◌≡◌ {A = ℕ} 0 1 = cc in omega arith
not_full rs (stopped past_end p) at o q = let z : ◌≡◌ {A = ℕ} 0 1 = cc in omega arith
not_full rs (stopped left_over p) at o q = let z : ◌≡◌ {A = ℕ} 0 1 = cc in omega arith
not_full rs (stopped too_deep p) at o q = let z : ◌≡◌ {A = ℕ} 0 1 = cc in omega arith
not_full rs (stopped no_room_left p) at o q = o

-- there are more records than room
wants : (rs : List Record) (e : Ending) (walked : ℕ → Outcome) (room at : ℕ) → Reaches rs e walked → OtherEnd e → walked room ≡ refused no_room_left at → room < length rs
wants rs e walked room at r o q = go (dec_le (length rs) room)
  where
    go : Dec (length rs ≤ room) → room < length rs
    go (yes l) = absurd (not_full rs e at o (sym (r.fits room l) ∙ q))
    go (no l) = omega arith

-- ---- the place

module _ (forced : Bool) where
  abbrev Over : Level → Type 0
  Over level = (s : List ℕ) (here : Spot) (room at : ℕ) → items_of s ≡ level → walk forced level here room ≡ refused no_room_left at → at ≡ outer_start level here.place (place_of_record (free forced level here).rows room)

  node_over : (h : KLV) (payload : List ℕ) (within behind : Level) → Over behind → Over (node h payload within behind)
  unfolding walk free outer_start
  node_over h payload within behind rest s here room at t e = go (walk_item forced h payload within here room) refl e
    where
      w : Comes s h payload within behind
      w = of_node s h payload within behind t

      one : Free
      one = its forced h payload within here

      two : Free
      two = free forced behind (after here h payload)

      next : ℕ
      next = next_at here.place h

      place : ℕ
      place = place_of_record (joined one.rows one.ending two).rows room

      there : Reaches one.rows one.ending (walk_item forced h payload within here)
      there = item_reaches forced h payload within here (reaches forced within)

      go : (o : Outcome) → walk_item forced h payload within here room ≡ o → and_then o (λ n. walk forced behind (after here h payload) (room - n)) ≡ refused no_room_left at
          → at ≡ cond (ltb place next) here.place (outer_start behind next place)
      go (refused why p) stops q =
          let full : walk_item forced h payload within here room ≡ refused no_room_left p = stops ∙ ap (λ (x : Refusal). refused x p) (cc) in
          let few : room < length one.rows = wants one.rows one.ending (walk_item forced h payload within here) room p there (item_others forced h payload within (others forced within) here) full in
          let it : place ≡ place_of_record one.rows room = record_joined one.rows one.ending two room few in
          let in_it = record_between here.place (here.place + 8 + length payload) one.rows room few (item_stays forced h payload within w.is_inside (stays forced within) here) in
          let before : place < next = omega (arith, it, in_it.1, (item_lengths s h payload w.rest w.is_item).is_data) in
          let at_is : at ≡ here.place = (let same : at ≡ p = cc in same ∙ item_refused forced h payload within here room why p stops) in
          at_is ∙ sym (ap (λ (b : Bool). cond b here.place (outer_start behind next place)) (lt-ltb place next before))
      go (accepted ts j) made q =
          let all = all_there one.rows one.ending (walk_item forced h payload within here) room ts j there made in
          let stops = in_front_refused ts j (walk forced behind (after here h payload) (room - length ts)) no_room_left at q in
          let few : room - length ts < length two.rows = wants two.rows two.ending (walk forced behind (after here h payload)) (room - length ts) at (reaches forced behind (after here h payload)) (others forced behind (after here h payload)) stops in
          let fits : length ts ≤ room = subst (λ (l : List Record). length l ≤ room) all.same all.few in
          let it : place ≡ place_of_record two.rows (room - length ts) =
          ap (λ (d : Ending). place_of_record (joined one.rows d two).rows room) all.ends ∙ ap (λ (l : List Record). place_of_record (l ++ two.rows) room) all.same ∙ record_second ts two.rows room fits in
          let in_rest = record_between next (next + length w.rest) two.rows (room - length ts) few (stays forced behind w.rest (after here h payload) w.is_behind) in
          let behind_it : next ≤ place = omega (arith, it, in_rest.0) in
          rest w.rest (after here h payload) (room - length ts) at w.is_behind stops
          ∙ ap (outer_start behind next) (sym it)
          ∙ sym (ap (λ (b : Bool). cond b here.place (outer_start behind next place)) (le-ltb place next behind_it))

  over : (level : Level) → Over level
  unfolding walk
  over (left n) = λ s here room at t e. (let z : ◌≡◌ {A = ℕ} 0 1 = cc in absurd (omega arith))
  over broken = λ s here room at t e. (let z : ◌≡◌ {A = ℕ} 0 1 = cc in absurd (omega arith))
  over (node h payload within behind) = node_over h payload within behind (over behind)

-- REFUSAL 5: there are more records than room, and its place is the start of the outermost item in which the first
-- record without room stands
pub over_place : (forced : Bool) (s : List ℕ) (room at : ℕ) → reading_of forced s room ≡ refused no_room_left at → Full forced s room at
over_place forced s room at e = go (dec_le (length s) 1048576)
  where
    go : Dec (length s ≤ 1048576) → Full forced s room at
    go (yes l) =
        let walked : walk forced (items_of s) outermost room ≡ refused no_room_left at = sym (read_within forced s room l) ∙ e in
        record {
          more = wants (free forced (items_of s) outermost).rows (free forced (items_of s) outermost).ending (walk forced (items_of s) outermost) room at (reaches forced (items_of s) outermost) (others forced (items_of s) outermost) walked;
          place = over forced (items_of s) s outermost room at refl walked;
        }
    go (no l) = let long : refused too_long 0 ≡ refused no_room_left at = sym (read_long forced s room (omega arith)) ∙ e in let z : ◌≡◌ {A = ℕ} 0 1 = cc in absurd (omega arith)

-- and where there are more, it is given, unless the payload is over the limit
pub full_given : (forced : Bool) (s : List ℕ) (room : ℕ) → length s ≤ 1048576 → room < length (free forced (items_of s) outermost).rows
    → reading_of forced s room ≡ refused no_room_left (outer_start (items_of s) 0 (place_of_record (free forced (items_of s) outermost).rows room))
full_given forced s room l more =
    let o = (reaches forced (items_of s) outermost).over room more in
    let is_refused : reading_of forced s room ≡ refused no_room_left o.0 = read_within forced s room l ∙ o.1 in
    is_refused ∙ ap (refused no_room_left) (over_place forced s room o.0 is_refused).place
