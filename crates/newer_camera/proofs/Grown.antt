-- What a walk with new items comes to as its room goes, put together from its items as the walk itself is. Assumes nothing.
use Prim.Native.Nat.{ℕ, zero, suc, ◌+◌, ◌-◌, ◌<◌, ◌≤◌}
use mathlib.Core.Path.{◌≡◌, refl, sym, ap, ◌∙◌, subst}
use mathlib.Core.Logic.{◌≢◌}
use mathlib.Core.Bool.{Bool, true, false, cond}
use mathlib.Core.List.{List, [], ◌∷◌, ◌++◌}
use native.Mathlib.Nat.{not-suc-le-zero}
use native.Mathlib.Decide.{dec_le}
use native.Mathlib.Omega.{arith}
use borrow.Author.Tests.{ne_eqb}
use lib.Dec.{eqb}
use lib.ListN.{length, length-append}
use Rattle.foundation.specs.Text.{key}
use Rattle.klv.specs.declared.KLV.{KLV}
use Rattle.klv.specs.Item.{data_len}
use Rattle.klv.specs.OneText.{type_text}
use Rattle.klv.specs.Level.{Level}
use Rattle.reading.specs.Refusal.{too_deep, no_room_left, deepest}
use Rattle.reading.specs.Last.{Last, last_item}
use Rattle.reading.specs.Record.{Group, named, Record}
use Rattle.reading.specs.Walk.{Role, container, item_headers, Spot, inside, record_of, refuse, group_inside}
use Rattle.reading.specs.Walk.{Outcome, accepted, refused, in_front, and_then, around, row_outcome, entered, by_role, item_outcome, walk, walk_item}
use Rattle.reading.proofs.Outcome.{around_accepted}
use Rattle.reading.proofs.Role.{role_empty, role_row}
use Rattle.newer_camera.specs.PutIn.{IsNew}
use Rattle.newer_camera.specs.Rows.{key_of, own_row}
use Rattle.newer_camera.specs.OldReader.{Among, neither, an_old, a_new}
use Rattle.newer_camera.proofs.Put.{Agree, both_none, both_last, both_stopped}

-- with room for all rows, the old among the new; else refused for want of room
pub record Grown (olds news : List Record) (walked : ℕ → Outcome) : Type 0 where
  pub rows : List Record
  pub headers : ℕ
  pub among : Among olds news rows
  pub fits : (room : ℕ) → length rows ≤ room → walked room ≡ accepted rows headers
  pub over : (room : ℕ) → room < length rows → (at : ℕ) × (walked room ≡ refused no_room_left at)

-- ---- one behind the other

among_append : {os ns rs ps qs ts : List Record} → Among os ns rs → Among ps qs ts → Among (os ++ ps) (ns ++ qs) (rs ++ ts)
among_append neither k = k
among_append (an_old m) k = an_old (among_append m k)
among_append (a_new m) k = a_new (among_append m k)

pub then_grown : {rs ts us vs : List Record} (f g : ℕ → Outcome) → Grown rs us f → Grown ts vs g → Grown (rs ++ ts) (us ++ vs) (λ room. and_then (f room) (λ n. g (room - n)))
then_grown f g a b =
    record {
      rows = a.rows ++ b.rows;
      headers = a.headers + b.headers;
      among = among_append a.among b.among;
      fits = both_fit;
      over = λ room l. one_over room (simp length-append at l) (dec_le (length a.rows) room);
    }
  where
    both_fit : (room : ℕ) → length (a.rows ++ b.rows) ≤ room → and_then (f room) (λ n. g (room - n)) ≡ accepted (a.rows ++ b.rows) (a.headers + b.headers)
    both_fit room l =
        let k : length a.rows + length b.rows ≤ room = simp length-append at l in
        ap (λ (o : Outcome). and_then o (λ n. g (room - n))) (a.fits room (omega arith)) ∙ ap (in_front a.rows a.headers) (b.fits (room - length a.rows) (omega arith))

    one_over : (room : ℕ) → room < length a.rows + length b.rows → Dec (length a.rows ≤ room) → (at : ℕ) × (and_then (f room) (λ n. g (room - n)) ≡ refused no_room_left at)
    one_over room l (yes k) =
        let w = b.over (room - length a.rows) (omega arith) in
        (w.0, ap (λ (o : Outcome). and_then o (λ n. g (room - n))) (a.fits room k) ∙ ap (in_front a.rows a.headers) w.1)
    one_over room l (no k) =
        let w = a.over room (omega arith) in
        (w.0, ap (λ (o : Outcome). and_then o (λ n. g (room - n))) w.1)

-- ---- an item

pub no_rows : (f : ℕ → Outcome) (headers : ℕ) → ((room : ℕ) → f room ≡ accepted [] headers) → Grown [] [] f
no_rows f headers e = record { rows = []; headers = headers; among = neither; fits = λ room l. e room; over = λ room l. absurd (not-suc-le-zero l) }

-- one row
pub row_grown : {olds news : List Record} (headers : ℕ) (r : Record) → Among olds news (r ∷ []) → Grown olds news (λ room. row_outcome headers room r)
row_grown headers r m = record { rows = r ∷ []; headers = headers; among = m; fits = fits_one; over = over_one }
  where
    fits_one : (room : ℕ) → 1 ≤ room → row_outcome headers room r ≡ accepted (r ∷ []) headers
    fits_one zero l = absurd (not-suc-le-zero l)
    fits_one (suc room) l = refl

    over_one : (room : ℕ) → room < 1 → (at : ℕ) × (row_outcome headers room r ≡ refused no_room_left at)
    over_one zero l = (r.place, refl)
    over_one (suc room) l = absurd (omega arith)

around_grown : {olds news : List Record} (f : ℕ → Outcome) (headers at : ℕ) → Grown olds news f → Grown olds news (λ room. around headers at (f room))
around_grown f headers at a =
    record {
      rows = a.rows;
      headers = headers + a.headers;
      among = a.among;
      fits = λ room l. ap (around headers at) (a.fits room l);
      over = λ room l. (at, ap (around headers at) (a.over room l).1);
    }

pub not_type : (h : KLV) → h.key ≢ key "TYPE" → type_text h ≡ false
unfolding type_text
not_type h n = rw (ne_eqb h.key (key "TYPE") n)

-- A NEW ITEM makes its own row, or none where it has no payload
pub new_grown : {padding : List ℕ} (forced : Bool) (h : KLV) (payload : List ℕ) (within : Level) (here : Spot) → IsNew h payload padding
    → Grown [] (own_row here h payload) (walk_item forced h payload within here)
unfolding item_outcome
new_grown forced h payload within here i = go payload i.whole.is_long
  where
    own : ℕ
    own = item_headers

    go : (p : List ℕ) → data_len h ≡ length p → Grown [] (own_row here h p) (walk_item forced h p within here)
    go [] e =
        subst (λ (role : Role). Grown [] [] (λ room. by_role own forced h [] (last_item within (here.place + 8)) (walk forced within) here room role)) (sym (role_empty h e))
        (no_rows (λ room. accepted [] own) own (λ room. refl))
    go (b ∷ p) e =
        subst (λ (role : Role). Grown [] (record_of here h (b ∷ p) ∷ []) (λ room. by_role own forced h (b ∷ p) (last_item within (here.place + 8)) (walk forced within) here room role))
        (sym (role_row h (λ z. omega arith) i.no_container (not_type h i.not_type))) (row_grown own (record_of here h (b ∷ p)) (a_new neither))

-- the group of a container's items, by the chain of its last item
abbrev pub group_by : Bool → Group → Last → Group
group_by true around chain = around
group_by false around chain = named (key_of chain)

-- A CONTAINER, and one like it with more inside: it is entered where the old one was, in the same group
pub container_grown : {olds news : List Record} (forced : Bool) (own its : ℕ) (h g : KLV) (p q : List ℕ) (chain other : Last) (f w : Spot → ℕ → Outcome) (here there : Spot) (room : ℕ) (rs : List Record) (k : ℕ)
    → there.depth ≡ here.depth → there.group ≡ here.group → Agree chain other
    → ((j : ℕ) → f (inside here (group_by forced here.group chain)) room ≡ accepted rs j → Grown olds news (w (inside there (group_by forced here.group chain))))
    → by_role own forced h p chain f here room container ≡ accepted rs k → Grown olds news (λ m. by_role its forced g q other w there m container)
container_grown {olds = olds} {news = news} forced own its h g p q chain other f w here there room rs k same group agree inner e =
    go forced (eqb here.depth deepest) (eqb there.depth deepest) (λ l. rw same l) agree inner e
  where
    enter_grown : (x : Group) → ((j : ℕ) → f (inside here x) room ≡ accepted rs j → Grown olds news (w (inside there x)))
        → around own here.place (f (inside here x) room) ≡ accepted rs k → Grown olds news (λ n. around its there.place (w (inside there x) n))
    enter_grown x i o =
        let a = around_accepted (f (inside here x) room) own here.place rs k o in
        around_grown (w (inside there x)) its there.place (i a.inner_headers a.is_inside)

    go : (fo b c : Bool) → (b ≡ false → c ≡ false) → {l m : Last} → Agree l m
        → ((j : ℕ) → f (inside here (group_by fo here.group l)) room ≡ accepted rs j → Grown olds news (w (inside there (group_by fo here.group l))))
        → entered own forced h p chain f here room (cond b (refuse too_deep) (group_inside fo here.group l)) ≡ accepted rs k
        → Grown olds news (λ n. entered its forced g q other w there n (cond c (refuse too_deep) (group_inside fo there.group m)))
    go fo true c d a i o = let z : ◌≡◌ {A = ℕ} 0 1 = cc in absurd (omega arith)
    go fo false true d a i o = let no_way = d refl in let z : ◌≡◌ {A = ℕ} 0 1 = cc in absurd (omega arith)
    go true false false d a i o = rw group (enter_grown here.group i o)
    go false false false d both_none i o = enter_grown (named 0) i o
    go false false false d (both_last {h = x} {g = y} key) i o = rw key (enter_grown (named x.key) i o)
    go false false false d both_stopped i o = let z : ◌≡◌ {A = ℕ} 0 1 = cc in absurd (omega arith)
