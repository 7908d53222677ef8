-- THE FRONT RULE: where a payload is refused at a place, the bytes before that place, read alone with the same room and the same forcing, are
-- accepted, and their records are those that the walk had made before the item there. Assumes nothing.
use Prim.Native.Nat.{ℕ, ◌+◌, ◌-◌, ◌≤◌}
use mathlib.Core.Path.{◌≡◌, refl, sym, ap, ◌∙◌}
use mathlib.Core.List.{List, []}
use mathlib.Core.Bool.{Bool, true}
use native.Mathlib.Decide.{dec_le}
use native.Mathlib.Omega.{arith}
use borrow.Author.Tests.{lt-ltb, le-ltb}
use lib.Dec.{ltb}
use lib.ListN.{length, take, length-take}
use Rattle.klv.specs.declared.KLV.{KLV}
use Rattle.klv.specs.Item.{data_len, aligned, item, first_item, next_at}
use Rattle.klv.specs.Level.{Level, left, broken, node, items_of}
use Rattle.klv.proofs.Item.{item_lengths}
use Rattle.klv.proofs.Level.{items_first, items_none, Comes, of_node}
use Rattle.reading.specs.Refusal.{Refusal}
use Rattle.reading.specs.Record.{Record}
use Rattle.reading.specs.Walk.{Spot, outermost, after, Outcome, accepted, refused, in_front, and_then, walk, walk_item, reading_of}
use Rattle.reading.specs.Count.{headers_by_items}
use Rattle.reading.specs.Front.{made_before, records_before}
use Rattle.reading.proofs.Cut.{first_front}
use Rattle.reading.proofs.Payload.{read_long, read_within, read_accepted}
use Rattle.reading.proofs.Walk.{NodeRefused, item_is, rest_is, node_accepted, node_refused}
use Rattle.reading.proofs.Count.{by_formula}

module _ (forced : Bool) where
  -- the bytes of a level before the place p: accepted, with the records that were made before
  record Alone (level : Level) (s : List ℕ) (here : Spot) (room p : ℕ) : Type 0 where
    from : here.place ≤ p
    headers : ℕ
    accepts : walk forced (items_of (take (p - here.place) s)) here room ≡ accepted (made_before p forced level here room) headers

  none_before : (level : Level) (here : Spot) (room p : ℕ) → p ≡ here.place → made_before p forced level here room ≡ []
  unfolding made_before
  none_before (left n) here room p e = refl
  none_before broken here room p e = refl
  none_before (node h payload within behind) here room p e = rw (le-ltb here.place p (omega arith))

  -- nothing stands before the first item
  at_once : (level : Level) (s : List ℕ) (here : Spot) (room p : ℕ) → p ≡ here.place → Alone level s here room p
  unfolding walk
  at_once level s here room p e =
      let nothing : p - here.place ≡ 0 = omega arith in
      record { from = omega arith; headers = 0; accepts = rw (nothing, items_none, none_before level here room p e) }

  -- an item that was accepted stands before what is alone behind it
  behind_it : (s : List ℕ) (here : Spot) (room p : ℕ) (h : KLV) (payload rest : List ℕ) (behind : Level) (ts : List Record) (j : ℕ) → first_item s ≡ item h payload rest
      → walk_item forced h payload (items_of payload) here room ≡ accepted ts j
      → Alone behind rest (after here h payload) (room - length ts) p → Alone (node h payload (items_of payload) behind) s here room p
  unfolding walk made_before
  behind_it s here room p h payload rest behind ts j first made alone =
      let q : ℕ = p - next_at here.place h in
      let next : next_at here.place h ≤ p = alone.from in
      let long : p - here.place ≡ 8 + (aligned (data_len h) + q) = omega arith in
      let tree : items_of (take (p - here.place) s) ≡ node h payload (items_of payload) (items_of (take q rest)) =
      ap (λ (n : ℕ). items_of (take n s)) long ∙ items_first (take (8 + (aligned (data_len h) + q)) s) (item h payload (take q rest)) (first_front s h payload rest q first) in
      let before : ltb here.place p ≡ true = lt-ltb here.place p (omega arith) in
      record {
        from = omega arith;
        headers = j + alone.headers;
        accepts = ap (λ (t : Level). walk forced t here room) tree
            ∙ ap (λ (o : Outcome). and_then o (λ n. walk forced (items_of (take q rest)) (after here h payload) (room - n))) made
            ∙ ap (in_front ts j) alone.accepts
            ∙ rw (before, made);
      }

  abbrev Fronted : Level → Type 0
  Fronted level =
      (s : List ℕ) (here : Spot) (room : ℕ) (why : Refusal) (p : ℕ) → items_of s ≡ level → walk forced level here room ≡ refused why p → Alone level s here room p

  fronted_node : (h : KLV) (payload : List ℕ) (within behind : Level) → Fronted behind → Fronted (node h payload within behind)
  fronted_node h payload within behind rest s here room why p t e = go (node_refused forced h payload within here room behind why p e)
    where
      w : Comes s h payload within behind
      w = of_node s h payload within behind t

      go : NodeRefused forced h payload within here room behind why p → Alone (node h payload within behind) s here room p
      go (item_is place) = at_once (node h payload within behind) s here room p place
      go (rest_is ts j made stops) =
          let there = rest w.rest (after here h payload) (room - length ts) why p w.is_behind stops in
          rw (← w.is_inside) (behind_it s here room p h payload w.rest behind ts j w.is_item (rw w.is_inside made) there)

  fronted : (level : Level) → Fronted level
  unfolding walk
  fronted (left n) = λ s here room why p t e. (let o : ◌≡◌ {A = ℕ} 0 1 = cc in absurd (omega arith))
  fronted broken = λ s here room why p t e. at_once broken s here room p (cc)
  fronted (node h payload within behind) = fronted_node h payload within behind (fronted behind)

  -- ---- the records made before the end are all of them

  abbrev Whole : Level → Type 0
  Whole level =
      (s : List ℕ) (here : Spot) (room p : ℕ) (rs : List Record) (k : ℕ) → items_of s ≡ level → (8 ≤ length s → here.place + length s ≤ p) → walk forced level here room ≡ accepted rs k
      → made_before p forced level here room ≡ rs

  whole_node : (h : KLV) (payload : List ℕ) (within behind : Level) → Whole behind → Whole (node h payload within behind)
  unfolding made_before
  whole_node h payload within behind rest s here room p rs k t reach e =
      let w = of_node s h payload within behind t in
      let n = item_lengths s h payload w.rest w.is_item in
      let both = node_accepted forced h payload within here room behind rs k e in
      let end : here.place + length s ≤ p = reach (omega (arith, n.payload)) in
      let before : ltb here.place p ≡ true = lt-ltb here.place p (omega (arith, n.payload)) in
      let made = both.is_first in
      let second = rest w.rest (after here h payload) (room - length both.first) p both.second both.second_headers w.is_behind
      (λ some. omega (arith, n.is_data, n.payload, n.rest)) both.is_second in
      rw (before, made, second) (sym both.records)

  whole : (level : Level) → Whole level
  unfolding walk made_before
  whole (left n) = λ s here room p rs k t reach e. (let none : rs ≡ [] = cc in sym none)
  whole broken = λ s here room p rs k t reach e. (let o : ◌≡◌ {A = ℕ} 0 1 = cc in absurd (omega arith))
  whole (node h payload within behind) = whole_node h payload within behind (whole behind)

-- of an accepted payload, those before its end are all its records
pub all_records : (forced : Bool) (s : List ℕ) (room : ℕ) (rs : List Record) (headers : ℕ) → reading_of forced s room ≡ accepted rs headers → records_before (length s) forced s room ≡ rs
all_records forced s room rs headers e = whole forced (items_of s) s outermost room (length s) rs headers refl (λ some. omega arith) (read_accepted forced s room rs headers e)

-- THE FRONT RULE
pub front_rule : (forced : Bool) (s : List ℕ) (room : ℕ) (why : Refusal) (p : ℕ) → reading_of forced s room ≡ refused why p
    → reading_of forced (take p s) room ≡ accepted (records_before p forced s room) (headers_by_items (items_of (take p s)))
front_rule forced s room why p e = go (dec_le (length s) 1048576)
  where
    as_read_alone : length (take p s) ≤ 1048576 → Alone forced (items_of s) s outermost room p
        → reading_of forced (take p s) room ≡ accepted (records_before p forced s room) (headers_by_items (items_of (take p s)))
    as_read_alone short a =
        let whole : p - 0 ≡ p = omega arith in
        let walked : walk forced (items_of (take p s)) outermost room ≡ accepted (records_before p forced s room) a.headers = rw whole at a.accepts in
        let read : reading_of forced (take p s) room ≡ accepted (records_before p forced s room) a.headers = read_within forced (take p s) room short ∙ walked in
        read ∙ ap (accepted (records_before p forced s room)) (by_formula forced (take p s) room (records_before p forced s room) a.headers read)

    go : Dec (length s ≤ 1048576) → reading_of forced (take p s) room ≡ accepted (records_before p forced s room) (headers_by_items (items_of (take p s)))
    go (yes l) = as_read_alone (simp length-take (omega arith)) (fronted forced (items_of s) s outermost room why p refl (sym (read_within forced s room l) ∙ e))
    go (no l) =
        let long = read_long forced s room (omega arith) in
        let start : p ≡ 0 = cc in
        as_read_alone (simp length-take (omega arith)) (at_once forced (items_of s) s outermost room p start)
