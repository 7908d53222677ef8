-- How a newer camera's payload is met: accepted with every old row and the new items' own, or refused for its length or for want of room, and for
-- nothing else. Assumes nothing.
use Prim.Native.Nat.{ℕ, ◌+◌, ◌≤◌}
use mathlib.Core.Path.{◌≡◌, refl, sym, ap, ◌∙◌, subst}
use mathlib.Core.Bool.{Bool}
use mathlib.Core.List.Memᴰ
use mathlib.Core.List.{List, [], ◌∷◌, map, Memᴰ}
use native.Mathlib.Decide.{dec_le}
use native.Mathlib.Omega.{arith}
use lib.ListN.{length}
use Rattle.klv.specs.Level.{items_of}
use Rattle.reading.specs.Refusal.{too_long, no_room_left}
use Rattle.reading.specs.Record.{Record}
use Rattle.reading.specs.Walk.{outermost, Outcome, accepted, refused, walk, reading_of}
use Rattle.reading.proofs.Payload.{read_long, read_within, accepted_within, read_accepted}
use Rattle.reading.proofs.Stand.{Stands, read_stands}
use Rattle.newer_camera.specs.PutIn.{PutIn}
use Rattle.newer_camera.specs.Rows.{new_rows, put_before, moved_by, moved}
use Rattle.newer_camera.specs.OldReader.{Among, neither, an_old, a_new, Kept, Met}
use Rattle.newer_camera.proofs.Order.{read_in_order}
use Rattle.newer_camera.proofs.Grown.{Grown}
use Rattle.newer_camera.proofs.Grow.{grow}
use Rattle.newer_camera.proofs.Value.{found_there, text_moved, value_moved}

-- ---- lists among each other

pub among_length : {olds news rows : List Record} → Among olds news rows → length rows ≡ length olds + length news
among_length neither = refl
among_length (an_old m) = let e = among_length m in omega arith
among_length (a_new m) = let e = among_length m in omega arith

among_old : {olds news rows : List Record} {r : Record} → Among olds news rows → Memᴰ r olds → Memᴰ r rows
among_old neither m = absurd (Memᴰ.not-nil m)
among_old (an_old a) (Memᴰ.head e) = Memᴰ.head e
among_old (an_old a) (Memᴰ.tail m) = Memᴰ.tail (among_old a m)
among_old (a_new a) m = Memᴰ.tail (among_old a m)

-- so are what a function makes of them
pub among_map : {A B : Type 0} (f : A → B) {olds news rows : List A} → Among olds news rows → Among (map f olds) (map f news) (map f rows)
among_map f neither = neither
among_map f (an_old a) = an_old (among_map f a)
among_map f (a_new a) = a_new (among_map f a)

module _ (f : Record → Record) where
  pub map_length : (rs : List Record) → length (map f rs) ≡ length rs
  map_length [] = refl
  map_length (r ∷ rs) = let e = map_length rs in omega arith

  map_old : {r : Record} {rs : List Record} → Memᴰ r rs → Memᴰ (f r) (map f rs)
  map_old (Memᴰ.head e) = Memᴰ.head (ap f e)
  map_old (Memᴰ.tail m) = Memᴰ.tail (map_old m)

module _ (forced : Bool) {s t : List ℕ} (put : PutIn s t) (room : ℕ) (rs : List Record) (headers : ℕ) (e : reading_of forced s room ≡ accepted rs headers) where
  -- the walk of the new bytes, as the room goes
  grown : Grown (map (moved put) rs) (new_rows forced put) (walk forced (items_of t) outermost)
  grown =
      grow forced (put_before put 0) put outermost outermost 0 (record { depth = refl; group = refl; type = refl }) refl (λ c l m. omega arith) room rs headers (read_accepted forced s room rs headers e)

  -- an old row of the accepted reading
  old_kept : (lent : ℕ) (rows : List Record) (k : ℕ) → length t ≤ 1048576 → reading_of forced t lent ≡ accepted rows k → Among (map (moved put) rs) (new_rows forced put) rows
      → (r : Record) → Memᴰ r rs → Kept s t r (moved put r)
  unfolding moved_by
  old_kept lent rows k short made among r m =
      let here : Stands s r = read_stands forced s room rs headers e r m in
      let there : Stands t (moved put r) = read_stands forced t lent rows k made (moved put r) (among_old among (map_old (moved put) m)) in
      record {
        content = refl;
        bytes = there.item.payload_is;
        type_text = text_moved (put_before put 0) r.type;
        value_before = found_there s (accepted_within forced s room rs headers e) r here;
        value_now = found_there t short (moved put r) there ∙ value_moved (put_before put 0) r;
      }

  -- HOW IT IS MET, with whatever room is lent
  pub met : (lent : ℕ) → Met forced put rs lent (reading_of forced t lent)
  met lent = by_length (dec_le (length t) 1048576)
    where
      so : (o : Outcome) → reading_of forced t lent ≡ o → Met forced put rs lent o → Met forced put rs lent (reading_of forced t lent)
      so o is m = subst (λ (x : Outcome). Met forced put rs lent x) (sym is) m

      all_rows : length grown.rows ≡ length rs + length (new_rows forced put)
      all_rows = let n = among_length grown.among in let m = map_length (moved put) rs in omega arith

      by_room : length t ≤ 1048576 → Dec (length grown.rows ≤ lent) → Met forced put rs lent (reading_of forced t lent)
      by_room short (yes l) =
          let made = read_within forced t lent short ∙ grown.fits lent l in
          so (accepted grown.rows grown.headers) made
          (record {
            not_too_long = short;
            enough_room = omega (arith, all_rows);
            rows_are = grown.among;
            in_order = read_in_order forced t lent grown.rows grown.headers made;
            kept = old_kept lent grown.rows grown.headers short made grown.among;
          })
      by_room short (no l) =
          let w = grown.over lent (omega arith) in
          so (refused no_room_left w.0) (read_within forced t lent short ∙ w.1) (record { not_too_long = short; no_room = omega (arith, all_rows) })

      by_length : Dec (length t ≤ 1048576) → Met forced put rs lent (reading_of forced t lent)
      by_length (yes l) = by_room l (dec_le (length grown.rows) lent)
      by_length (no l) = so (refused too_long 0) (read_long forced t lent (omega arith)) (omega arith)
