-- AN OLD READER MEETS A NEWER CAMERA, in what `parse_metadata` answers and writes: demand 3 in the caller's numbers, all eight of each row. From demand 3
-- of the reading and the call's promise. Assumes nothing.
use Prim.Native.Nat.{ℕ, zero, suc, ◌+◌, ◌*◌, ◌<◌, ◌≤◌}
use mathlib.Core.Path.{◌≡◌, refl, sym, ap, ◌∙◌, subst}
use mathlib.Core.Logic.{◌⊎◌, inl, inr}
use mathlib.Core.Bool.{Bool, cond}
use mathlib.Core.List.Memᴰ
use mathlib.Core.List.{List, [], ◌∷◌, ◌++◌, map, flat_map, Memᴰ}
use native.Mathlib.Omega.{arith}
use borrow.Author.Tests.{ne_eqb}
use contract.Lifetimes.{Lfts}
use denote.Triple.Clauses.{AtExit}
use borrow.Fn.Kinds.{Dens, res_t, ended_of}
use lib.Dec.{eqb}
use lib.ListN.{length, take, drop, get_or}
use Rattle.reading.specs.Refusal.{too_long, past_end, left_over, too_deep, no_room_left, number, most_bytes}
use Rattle.reading.specs.Record.{TypeInForce, no_type, type_at, Record, type_place, numbers, row_width, no_place}
use Rattle.reading.specs.Walk.{Outcome, accepted, refused, reading_of, room_of}
use Rattle.reading.specs.Answer.{answer, lent}
use Rattle.reading.proofs.Payload.{accepted_within}
use Rattle.reading.proofs.Stand.{InForceStands, Stands, read_stands}
use Rattle.items.specs.At.{Found, found_at}
use Rattle.metadata.proofs.parse_metadata.Kinds as call
use Rattle.metadata.proofs.parse_metadata.Reads as promise
use Rattle.std.specs.Prelude.{Ok, Err}
use Rattle.foundation.specs.Refusals.{refuse}
use Rattle.walk.specs.Metadata.{told, Read}
use Rattle.walk.proofs.Passes as passes
use Rattle.walk.proofs.Passes.{Answer, counted}
use Rattle.newer_camera.specs.PutIn.{PutIn}
use Rattle.newer_camera.specs.OtherBytes.{OtherBytes}
use Rattle.newer_camera.specs.Rows.{new_rows, put_before, moved_type, moved_by, moved}
use Rattle.newer_camera.specs.OldReader.{Among, InOrder, Kept, Met}
use Rattle.newer_camera.proofs.Value.{type_before_none}
use Rattle.newer_camera.proofs.Meeting.{among_length, among_map, map_length}
use Rattle.newer_camera.proofs.Unaltered.{same_length, answer_unaltered}
use Rattle.newer_camera.proofs.NewerCamera.{newer_camera}

-- ---- what a caller has

-- the first rows that stand in lent numbers
abbrev pub rows_in : ℕ → List ℕ → List (List ℕ)
rows_in zero written = []
rows_in (suc n) written = take row_width written ∷ rows_in n (drop row_width written)

-- two of a row's eight numbers are places: that of its header, and that of the TYPE in force
abbrev pub place_in : List ℕ → ℕ
place_in row = get_or row 0 0

abbrev pub type_place_in : List ℕ → ℕ
type_place_in row = get_or row 6 0

-- A ROW MOVED: its own place by so much, and that of the TYPE in force, if there is one, by so much; the other six numbers stay
abbrev pub moved_row : (ℕ → ℕ) → List ℕ → List ℕ
moved_row by row =
    let place = place_in row in
    let type = type_place_in row in
    (place + by place) ∷ take 5 (drop 1 row) ++ (cond (eqb type no_place) no_place (type + by type) ∷ drop 7 row)

-- an old row's eight numbers in the new payload: moved by the bytes put in at or before its places
abbrev pub old_row : {s t : List ℕ} → PutIn s t → List ℕ → List ℕ
old_row put row = moved_row (put_before put 0) row

-- what the value of a row is read from, by the places in the row; or why there is none
abbrev pub found_by : List ℕ → List ℕ → Found
found_by payload row = found_at payload (place_in row) (type_place_in row)

-- rows in the order of their places, from one place up to an end
abbrev pub PlacesRise : ℕ → ℕ → List (List ℕ) → Type 0
PlacesRise from end [] = Unit {0}
PlacesRise from end (row ∷ rows) = (from ≤ place_in row) × (place_in row < end) × PlacesRise (suc (place_in row)) end rows

-- where n rows of the old payload were written into numbers that now hold `was`, m rows of the new one in numbers that now hold `is`
pub record CalledRows (forced : Bool) {s t : List ℕ} (put : PutIn s t) (n : ℕ) (was : List ℕ) (room m : ℕ) (is : List ℕ) : Type 0 where
  pub not_too_long : length t ≤ most_bytes
  pub as_many : m ≡ n + length (new_rows forced put)
  pub enough_room : m ≤ room
  -- all eight numbers of each row: the old rows, moved, in the old order, and one for each new item with a payload
  pub rows_are : Among (map (old_row put) (rows_in n was)) (map numbers (new_rows forced put)) (rows_in m is)
  pub in_order : PlacesRise 0 (length t) (rows_in m is)
  -- by its moved places an old row has the header, the payload bytes and the TYPE text that it had: so the same value, or refusal of a value
  pub same_value : (row : List ℕ) → Memᴰ row (rows_in n was) → found_by t (old_row put row) ≡ found_by s row

-- "unless it passes the length limit or the lent room; no other refusal occurs": the three cases shut each other out, so each is given then and not otherwise
abbrev pub Called : Bool → {s t : List ℕ} → PutIn s t → ℕ → List ℕ → ℕ → Answer → List ℕ → Type 0
Called forced put n was room (Ok m) is = CalledRows forced put n was room m.rows is
Called forced {t = t} put n was room (Err r) is =
    ((r.number ≡ 1) × (most_bytes < length t)) ⊎ ((r.number ≡ 5) × (length t ≤ most_bytes) × (room < n + length (new_rows forced put)))

-- ---- the proof

-- the rows that were written are those of the reading
rows_in_lem : (rs : List Record) (rest : List ℕ) → rows_in (length rs) (flat_map numbers rs ++ rest) ≡ map numbers rs
unfolding flat_map numbers
rows_in_lem [] rest = refl
rows_in_lem (r ∷ rs) rest = ap (λ (more : List (List ℕ)). numbers r ∷ more) (rows_in_lem rs rest)

in_order_numbers : (from end : ℕ) (rs : List Record) → InOrder from end rs → PlacesRise from end (map numbers rs)
unfolding numbers
in_order_numbers from end [] o = tt
in_order_numbers from end (r ∷ rs) (low, high, o) = (low, high, in_order_numbers (suc r.place) end rs o)

module _ (s : List ℕ) (within : length s ≤ most_bytes) (by : ℕ → ℕ) where
  type_moved : (t : TypeInForce) → InForceStands s t → cond (eqb (type_place t) no_place) no_place (type_place t + by (type_place t)) ≡ type_place (moved_type by t)
  type_moved no_type stands = refl
  type_moved (type_at at text) stands = ap (λ (b : Bool). cond b no_place (at + by at)) (ne_eqb at no_place (type_before_none s within at text stands))

  -- a moved record's numbers are the record's numbers, moved
  row_moved : (r : Record) → Stands s r → moved_row by (numbers r) ≡ numbers (moved_by by r)
  unfolding numbers moved_by
  row_moved r stands =
      ap (λ k. (r.place + by r.place) ∷ take 5 (drop 1 (numbers r)) ++ (k ∷ drop 7 (numbers r))) (type_moved r.type stands.type)

  rows_moved : (rs : List Record) → ((r : Record) → Memᴰ r rs → Stands s r) → map (moved_row by) (map numbers rs) ≡ map numbers (map (moved_by by) rs)
  rows_moved [] all = refl
  rows_moved (r ∷ rs) all =
      let more : map (moved_row by) (map numbers rs) ≡ map numbers (map (moved_by by) rs) = rows_moved rs (λ x m. all x (Memᴰ.tail m)) in
      λ i. row_moved r (all r (Memᴰ.head refl)) i ∷ more i

-- a row of numbers is that of a record
of_record : (P : List ℕ → Type 0) (rs : List Record) → ((r : Record) → Memᴰ r rs → P (numbers r)) → (row : List ℕ) → Memᴰ row (map numbers rs) → P row
of_record P [] all row m = absurd (Memᴰ.not-nil m)
of_record P (r ∷ rs) all row (Memᴰ.head e) = subst P (sym e) (all r (Memᴰ.head refl))
of_record P (r ∷ rs) all row (Memᴰ.tail m) = of_record P rs (λ x n. all x (Memᴰ.tail n)) row m

-- the value by a row's numbers is that by its record
by_record : (payload : List ℕ) (r : Record) → found_by payload (numbers r) ≡ found_at payload r.place (type_place r.type)
unfolding numbers
by_record payload r = refl

module _ (forced : Bool) {s t : List ℕ} (put : PutIn s t) (rs : List Record) (within : length s ≤ most_bytes) (all : (r : Record) → Memᴰ r rs → Stands s r) (old held : List ℕ) where
  kept_value : (r : Record) → Stands s r → Kept s t r (moved put r) → found_by t (old_row put (numbers r)) ≡ found_by s (numbers r)
  kept_value r stands k =
      ap (found_by t) (row_moved s within (put_before put 0) r stands) ∙ by_record t (moved put r) ∙ k.value_now ∙ sym k.value_before ∙ sym (by_record s r)

  -- what is met, as the caller has it
  met_called : (room : ℕ) (o : Outcome) → Met forced put rs room o → Called forced put (length rs) (flat_map numbers rs ++ old) room (told o) (lent o held)
  met_called room (accepted rows headers) a =
      let count = among_length a.rows_are in
      let olds = map_length (moved put) rs in
      let was = rows_in_lem rs old in
      let is = rows_in_lem rows (drop (length rows * row_width) held) in
      record {
        not_too_long = a.not_too_long;
        as_many = omega arith;
        enough_room = omega (arith, a.enough_room);
        rows_are = rw (was, is, rows_moved s within (put_before put 0) rs all) (among_map numbers a.rows_are);
        in_order = rw is (in_order_numbers 0 (length t) rows a.in_order);
        same_value =
            rw was
            (of_record (λ (row : List ℕ). found_by t (old_row put row) ≡ found_by s row) rs (λ r m. kept_value r (all r m) (a.kept r m)));
      }
  met_called room (refused too_long at) over = inl (refl, over)
  met_called room (refused no_room_left at) many = inr (refl, many.not_too_long, many.no_room)
  met_called room (refused past_end at) never = absurd never
  met_called room (refused left_over at) never = absurd never
  met_called room (refused too_deep at) never = absurd never

-- THE CALL: with the old payload answered by n rows, and the new one with whatever numbers are lent, both with the group forced or both without
pub newer_camera_call : (forced : Bool) {s t : List ℕ} (put : PutIn s t) (old was : List ℕ) (n headers : ℕ) (held is : List ℕ) (answer : Answer)
    → Read (reading_of forced s (room_of (length old))) old (counted n headers) was → Read (reading_of forced t (room_of (length held))) held answer is
    → Called forced put n was (room_of (length held)) answer is
newer_camera_call forced {s = s} {t = t} put old was n headers held is answer before after = go (reading_of forced s (room_of (length old))) refl before.is before.rows
  where
    room : ℕ
    room = room_of (length held)

    go : (o : Outcome) → reading_of forced s (room_of (length old)) ≡ o → counted n headers ≡ told o → was ≡ lent o old → Called forced put n was room answer is
    go (refused why at) e a w = let z : ◌≡◌ {A = ℕ} 0 1 = cc in absurd (omega arith)
    go (accepted rs k) e a w =
        let as_many : n ≡ length rs = ap passes.rows_in a in
        rw (as_many, w, after.is, after.rows)
        (met_called forced put rs (accepted_within forced s (room_of (length old)) rs k e) (read_stands forced s (room_of (length old)) rs k e) (drop (length rs * row_width) old) held room
        (reading_of forced t room) ((newer_camera forced s t put (room_of (length old)) rs k e).met room))

-- the same of the promise as the prover reads it off the source of `parse_metadata`, where both calls force the group or neither does
pub called : (κs : Lfts 2) (a b : Dens κs call.ps) (n headers : ℕ) (y : (res_t call.r κs).Denot) (u v : AtExit (ended_of 2 call.ps call.r) κs) (put : PutIn a.0.now b.0.now)
    → b.1.0 ≡ a.1.0 → promise.Learnt κs a (counted n headers) u → promise.Learnt κs b y v
    → Called a.1.0 put n u.1.1.0.now (room_of (length b.1.1.0.now)) y v.1.1.0.now
called κs a b n headers y u v put same p q =
    newer_camera_call a.1.0 put a.1.1.0.now u.1.1.0.now n headers b.1.1.0.now v.1.1.0.now y p
    (subst (λ (forced : Bool). Read (reading_of forced b.0.now (room_of (length b.1.1.0.now))) b.1.1.0.now y v.1.1.0.now) same q)

-- ---- other payload bytes in new items

-- what is told and what is written come of the answer in numbers
same_flat : (rs ts : List Record) → map numbers rs ≡ map numbers ts → flat_map numbers rs ≡ flat_map numbers ts
unfolding flat_map
same_flat [] [] e = refl
same_flat [] (t ∷ ts) e = let z : ◌≡◌ {A = ℕ} 0 1 = cc in absurd (omega arith)
same_flat (r ∷ rs) [] e = let z : ◌≡◌ {A = ℕ} 0 1 = cc in absurd (omega arith)
same_flat (r ∷ rs) (t ∷ ts) e =
    let first : numbers r ≡ numbers t = cc in
    let more : flat_map numbers rs ≡ flat_map numbers ts = same_flat rs ts (cc) in
    λ i. first i ++ more i

same_call : (held : List ℕ) (o p : Outcome) → answer o ≡ answer p → (told o ≡ told p) × (lent o held ≡ lent p held)
same_call held (accepted rs k) (accepted ts j) e =
    let n : map numbers rs ≡ map numbers ts = cc in
    let k_j : k ≡ j = cc in
    let l : length rs ≡ length ts = same_length rs ts n in
    ((λ i. counted (l i) (k_j i)), (λ i. same_flat rs ts n i ++ drop (l i * row_width) held))
same_call held (accepted rs k) (refused why at) e = let z : ◌≡◌ {A = ℕ} 0 1 = cc in absurd (omega arith)
same_call held (refused why at) (accepted ts j) e = let z : ◌≡◌ {A = ℕ} 0 1 = cc in absurd (omega arith)
same_call held (refused why at) (refused w p) e =
    let n : number why ≡ number w = cc in
    let a : at ≡ p = cc in
    ((λ i. refuse (n i) (a i)), refl)

-- "Changing payload bytes of new items alters no old record": lent the same numbers, the call answers the same and leaves the same numbers, new rows and all
pub unaltered_call : (forced : Bool) {s t u : List ℕ} {put : PutIn s t} → OtherBytes s t put u → (held : List ℕ) (x y : Answer) (is other : List ℕ)
    → Read (reading_of forced t (room_of (length held))) held x is → Read (reading_of forced u (room_of (length held))) held y other → (y ≡ x) × (other ≡ is)
unaltered_call forced {t = t} {u = u} o held x y is other p q =
    let same = same_call held (reading_of forced u (room_of (length held))) (reading_of forced t (room_of (length held))) (answer_unaltered o forced (room_of (length held))) in
    (q.is ∙ same.0 ∙ sym p.is, q.rows ∙ same.1 ∙ sym p.rows)

-- and so of the promise
pub called_unaltered : (κs : Lfts 2) (a b : Dens κs call.ps) (x y : (res_t call.r κs).Denot) (u v : AtExit (ended_of 2 call.ps call.r) κs) {s : List ℕ} {put : PutIn s a.0.now}
    → OtherBytes s a.0.now put b.0.now → b.1.0 ≡ a.1.0 → b.1.1.0.now ≡ a.1.1.0.now → promise.Learnt κs a x u → promise.Learnt κs b y v
    → (y ≡ x) × (v.1.1.0.now ≡ u.1.1.0.now)
called_unaltered κs a b x y u v o same lent_same p q =
    unaltered_call a.1.0 o a.1.1.0.now x y u.1.1.0.now v.1.1.0.now p
    (subst (λ (forced : Bool). Read (reading_of forced b.0.now (room_of (length a.1.1.0.now))) a.1.1.0.now y v.1.1.0.now) same
    (subst (λ (held : List ℕ). Read (reading_of b.1.0 b.0.now (room_of (length held))) held y v.1.1.0.now) lent_same q))
