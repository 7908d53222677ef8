-- ONE PASS answers what the chain and the walk answer. Assumes nothing.
use Prim.Native.Nat.{ℕ, ◌+◌}
use mathlib.Core.Path.{◌≡◌, refl, sym, ap, ◌∙◌}
use mathlib.Core.List.{List, [], map, map-append}
use mathlib.Core.Bool.{Bool, true, false, cond}
use lib.Dec.{eqb}
use Rattle.klv.specs.declared.KLV.{KLV}
use Rattle.klv.specs.Level.{Level, left, broken, node, items_of}
use Rattle.reading.specs.Refusal.{too_deep, deepest}
use Rattle.reading.specs.Last.{Last, none, last, or_else, last_item}
use Rattle.reading.specs.Record.{callers, named, TypeInForce, Record}
use Rattle.reading.specs.Walk.{Role, empty, container, type_item, row_item, role_of, item_headers, Spot, inside, type_after, after, enter, refuse, group_inside, outermost, accepted, walk, reading_of}
use Rattle.reading.specs.Free.{Ending, through, stopped, Free, later, joined, and_free, around_ending, free_entered, free_role, free}
use Rattle.reading.specs.Once.{Passed, name_group, name, closed, once_role, once, HeadersRead}
use Rattle.reading.proofs.Payload.{read_accepted}
use Rattle.reading.proofs.Count.{by_formula}
use Rattle.reading.proofs.Reach.{reaches, all_there}

-- ---- a walk whose group is not known yet, named afterwards

module _ (key : ℕ) where
  abbrev renamed : Free → Free
  renamed f = record { rows = map (name key) f.rows; ending = f.ending }

  abbrev moved : Spot → Spot
  moved here = record { place = here.place; depth = here.depth; group = name_group key here.group; type = here.type }

  joined_renamed : (rs : List Record) (e : Ending) (g : Free) → joined (map (name key) rs) e (renamed g) ≡ renamed (joined rs e g)
  joined_renamed rs (through k) g = ap (λ (l : List Record). record { rows = l; ending = later k g.ending }) (sym (map-append (name key) rs g.rows))
  joined_renamed rs (stopped why at) g = refl

  abbrev Natural : Level → Type 0
  Natural level = (here : Spot) → free false level (moved here) ≡ renamed (free false level here)

  module _ (h : KLV) (payload : List ℕ) (within : Level) (inner : Natural within) (here : Spot) where
    abbrev chain : Last
    chain = last_item within (here.place + 8)

    by_name : (k : ℕ) → free_entered false h payload chain (free false within) (moved here) (enter (named k)) ≡ renamed (free_entered false h payload chain (free false within) here (enter (named k)))
    by_name k =
        ap (λ (f : Free). record { rows = f.rows; ending = around_ending item_headers here.place f.ending }) (inner (inside here (named k)))

    by_chain : (l : Last) → free_entered false h payload chain (free false within) (moved here) (group_inside false (name_group key here.group) l)
        ≡ renamed (free_entered false h payload chain (free false within) here (group_inside false here.group l))
    by_chain none = by_name 0
    by_chain (last at g) = by_name g.key
    by_chain (Last.stopped why at) = refl

    by_depth : (b : Bool) → free_entered false h payload chain (free false within) (moved here) (cond b (refuse too_deep) (group_inside false (name_group key here.group) chain))
        ≡ renamed (free_entered false h payload chain (free false within) here (cond b (refuse too_deep) (group_inside false here.group chain)))
    by_depth true = refl
    by_depth false = by_chain chain

    by_role_lem : (role : Role) → free_role false h payload chain (free false within) (moved here) role ≡ renamed (free_role false h payload chain (free false within) here role)
    by_role_lem empty = refl
    by_role_lem type_item = refl
    by_role_lem row_item = refl
    by_role_lem container = by_depth (eqb here.depth deepest)

    behind_moved : after (moved here) h payload ≡ moved (after here h payload)
    behind_moved = ap (λ (t : TypeInForce). moved (record { place = (after here h payload).place; depth = here.depth; group = here.group; type = t })) (go (role_of h))
      where
        go : (role : Role) → type_after role payload (moved here) ≡ type_after role payload here
        go empty = refl
        go container = refl
        go type_item = refl
        go row_item = refl

  node_natural : (h : KLV) (payload : List ℕ) (within behind : Level) → Natural within → Natural behind → Natural (node h payload within behind)
  unfolding free
  node_natural h payload within behind inner rest here =
      let f : Free = free_role false h payload (last_item within (here.place + 8)) (free false within) here (role_of h) in
      let g : Free = free false behind (after here h payload) in
      ap (λ (x : Free). and_free x (free false behind (after (moved here) h payload))) (by_role_lem h payload within inner here (role_of h))
      ∙ ap (λ (x : Spot). and_free (renamed f) (free false behind x)) (behind_moved h payload within inner here)
      ∙ ap (and_free (renamed f)) (rest (after here h payload))
      ∙ joined_renamed f.rows f.ending g

  natural : (level : Level) → Natural level
  unfolding free
  natural (left n) = λ here. refl
  natural broken = λ here. refl
  natural (node h payload within behind) = node_natural h payload within behind (natural within) (natural behind)

-- ---- the pass

abbrev Is : Bool → Level → Type 0
Is forced level = (here : Spot) → once forced level here ≡ record { chain = last_item level here.place; made = free forced level here }

module _ (forced : Bool) (h : KLV) (payload : List ℕ) (within : Level) (inner : Is forced within) (here : Spot) where
  abbrev its : Last
  its = last_item within (here.place + 8)

  by_closed : (b : Bool) → b ≡ forced → (l : Last) → last_item within (here.place + 8) ≡ l
      → closed h payload here b l (free b within (inside here (cond b here.group callers))) ≡ free_entered b h payload its (free b within) here (group_inside b here.group l)
  by_closed true q l e = refl
  by_closed false q none e = sym (ap (λ (f : Free). record { rows = f.rows; ending = around_ending item_headers here.place f.ending }) (natural 0 within (inside here callers)))
  by_closed false q (last at g) e = sym (ap (λ (f : Free). record { rows = f.rows; ending = around_ending item_headers here.place f.ending }) (natural g.key within (inside here callers)))
  by_closed false q (Last.stopped why at) e = refl

  by_depth_once : (b : Bool) → cond b (record { rows = []; ending = stopped too_deep here.place }) (closed h payload here forced its (free forced within (inside here (cond forced here.group callers))))
      ≡ free_entered forced h payload its (free forced within) here (cond b (refuse too_deep) (group_inside forced here.group its))
  by_depth_once true = refl
  by_depth_once false = by_closed forced refl its refl

  item_once : (role : Role) → once_role h payload here forced (once forced within) role ≡ free_role forced h payload its (free forced within) here role
  item_once empty = refl
  item_once type_item = refl
  item_once row_item = refl
  item_once container =
      ap (λ (p : Passed). cond (eqb here.depth deepest) (record { rows = []; ending = stopped too_deep here.place }) (closed h payload here forced p.chain p.made))
      (inner (inside here (cond forced here.group callers)))
      ∙ by_depth_once (eqb here.depth deepest)

node_once : (forced : Bool) (h : KLV) (payload : List ℕ) (within behind : Level) → Is forced within → Is forced behind → Is forced (node h payload within behind)
unfolding once free last_item
node_once forced h payload within behind inner rest here =
    ap (λ (p : Passed). record { chain = or_else (last here.place h) p.chain; made = and_free (once_role h payload here forced (once forced within) (role_of h)) p.made }) (rest (after here h payload))
    ∙ ap (λ (f : Free). record { chain = or_else (last here.place h) (last_item behind (after here h payload).place); made = and_free f (free forced behind (after here h payload)) }) (item_once forced h payload within inner here (role_of h))

-- ONE PASS that meets each header once: the last item as the chain finds it; records, headers and refusals as the walk
-- has them
pub one_pass : (forced : Bool) (level : Level) → Is forced level
unfolding once free last_item
one_pass forced (left n) = λ here. refl
one_pass forced broken = λ here. refl
one_pass forced (node h payload within behind) = node_once forced h payload within behind (one_pass forced within) (one_pass forced behind)

-- THE HEADERS of an accepted reading: as one pass counts them, and one for each item
pub headers_read : (forced : Bool) (s : List ℕ) (room : ℕ) (rs : List Record) (headers : ℕ) → reading_of forced s room ≡ accepted rs headers → HeadersRead forced s rs headers
headers_read forced s room rs headers e =
    let f : Free = free forced (items_of s) outermost in
    let all = all_there f.rows f.ending (walk forced (items_of s) outermost) room rs headers (reaches forced (items_of s) outermost) (read_accepted forced s room rs headers e) in
    record {
      as_counted = ap (λ (p : Passed). p.made) (one_pass forced (items_of s) outermost) ∙ ap (λ (l : List Record). record { rows = l; ending = f.ending }) all.same
          ∙ ap (λ (d : Ending). record { rows = rs; ending = d }) all.ends;
      by_formula = by_formula forced s room rs headers e;
    }
