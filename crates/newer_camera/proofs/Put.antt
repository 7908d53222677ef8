-- What putting in does to lengths, places and the last item: bytes grow by whole fours, and the last item keeps its key. Assumes nothing.
use Prim.Native.Nat.{ℕ, zero, suc, ◌+◌, ◌*◌, ◌/◌, ◌<◌, ◌≤◌}
use mathlib.Core.Path.{◌≡◌, refl, sym, ◌∙◌}
use mathlib.Core.List.{List, [], ◌∷◌, ◌++◌}
use native.Mathlib.Omega.{arith}
use borrow.Author.Tests.{le-leb, lt-leb}
use lib.ListN.{length, length-append}
use Rattle.klv.specs.declared.KLV.{KLV}
use Rattle.klv.specs.Item.{aligned, next_at, laid_out, Padded, whole, missing}
use Rattle.klv.specs.Level.{Level, left, broken, node, items_of}
use Rattle.klv.proofs.Laid.{items_laid}
use Rattle.reading.specs.Refusal.{Refusal}
use Rattle.reading.specs.Last.{Last, none, last, stopped, or_else, last_item}
use Rattle.reading.proofs.Last.{last_none}
use Rattle.newer_camera.specs.PutIn.{IsNew, IsOld, Matches, PutIn, nothing, new, behind, inside}
use Rattle.newer_camera.specs.Rows.{key_of, put_before}

-- the length of an item and what stands behind it
pub long : (h : KLV) (payload padding s : List ℕ) → length (laid_out h payload padding ++ s) ≡ 8 + (length payload + (length padding + length s))
long h payload padding s = simp length-append (omega arith)

-- nothing is put into nothing
pub none_in : {s t : List ℕ} → PutIn s t → length s ≡ 0 → length t ≡ 0
none_in nothing z = z
none_in (new i front put) z = absurd (omega arith)
none_in (behind {h = h} {payload = payload} {padding = padding} {s = s} i put) z = absurd (omega (arith, long h payload padding s))
none_in (inside {h = h} {payload = payload} {padding = padding} {s = s} i m within put) z = absurd (omega (arith, long h payload padding s))

-- BY WHOLE FOURS: a new item takes a multiple of 4 bytes
pub fours : {s t : List ℕ} → PutIn s t → (k : ℕ) × (length t ≡ length s + 4 * k)
fours nothing = (0, omega arith)
fours (new {h = h} {payload = payload} {padding = padding} {t = t} i front put) =
    let (k, e) = fours put in
    let padded = i.padded in
    (2 + (length payload + 3) / 4 + k, long h payload padding t ∙ omega arith)
fours (behind {h = h} {payload = payload} {padding = padding} {s = s} {t = t} i put) =
    let (k, e) = fours put in
    let before = long h payload padding s in
    (k, long h payload padding t ∙ omega arith)
fours (inside {h = h} {g = g} {payload = payload} {grown = grown} {padding = padding} {cushion = cushion} {s = s} {t = t} i m within put) =
    let (j, d) = fours within in
    let alike = m.padded_alike in
    let (k, e) = fours put in
    let before = long h payload padding s in
    (j + k, long g grown cushion t ∙ omega arith)

no_bytes : (s : List ℕ) → length s ≡ 0 → s ≡ []
no_bytes [] e = refl
no_bytes (b ∷ s) e = absurd (omega arith)

-- so a container's padding is as right as it was
padded_still : {s t : List ℕ} {n m : ℕ} {padding cushion : List ℕ} (k : ℕ) → m ≡ n + 4 * k → length cushion ≡ length padding → Padded n padding s → PutIn s t → Padded m cushion t
padded_still k q alike (whole e) put = whole (omega arith)
padded_still {t = t} k q alike (missing l) put = let z = no_bytes t (none_in put refl) in rw z (missing (omega arith))

-- THE LEVELS of the bytes before and after: an item in front is one node more
module _ {h : KLV} {payload padding : List ℕ} where
  pub new_level : IsNew h payload padding → (t : List ℕ) → items_of (laid_out h payload padding ++ t) ≡ node h payload (items_of payload) (items_of t)
  new_level i t = items_laid h payload padding t i.whole.written i.whole.is_long (whole i.padded)

  pub old_level : {s : List ℕ} → IsOld h payload padding s → items_of (laid_out h payload padding ++ s) ≡ node h payload (items_of payload) (items_of s)
  old_level {s = s} i = items_laid h payload padding s i.whole.written i.whole.is_long i.padded

  pub behind_level : {s t : List ℕ} → IsOld h payload padding s → PutIn s t → items_of (laid_out h payload padding ++ t) ≡ node h payload (items_of payload) (items_of t)
  behind_level {t = t} i put = items_laid h payload padding t i.whole.written i.whole.is_long (padded_still 0 (omega arith) refl i.padded put)

  pub inside_level : {g : KLV} {grown cushion s t : List ℕ} → IsOld h payload padding s → Matches h g grown padding cushion → PutIn payload grown → PutIn s t
      → items_of (laid_out g grown cushion ++ t) ≡ node g grown (items_of grown) (items_of t)
  inside_level {g = g} {grown = grown} {cushion = cushion} {t = t} i m within put =
      let (k, q) = fours within in
      items_laid g grown cushion t m.whole.written m.whole.is_long (padded_still k q m.padded_alike i.padded put)

-- ---- the bytes put in at or before a place

-- none before the level
pub put_low : {s t : List ℕ} (put : PutIn s t) (from c : ℕ) → c < from → put_before put from c ≡ 0
unfolding put_before
put_low nothing from c l = refl
put_low (new i front put) from c l =
    let none_here = lt-leb from c l in
    let rest = put_low put from c l in
    rw none_here (omega arith)
put_low (behind {h = h} i put) from c l = put_low put (next_at from h) c (omega arith)
put_low (inside {h = h} i m within put) from c l =
    let inner = put_low within (from + 8) c (omega arith) in
    let rest = put_low put (next_at from h) c (omega arith) in
    omega arith

-- where nothing stands behind, nothing is put in
none_put : {s t : List ℕ} (put : PutIn s t) → length s ≡ 0 → (from c : ℕ) → put_before put from c ≡ 0
unfolding put_before
none_put nothing z from c = refl
none_put (new i front put) z from c = absurd (omega arith)
none_put (behind {h = h} {payload = payload} {padding = padding} {s = s} i put) z from c = absurd (omega (arith, long h payload padding s))
none_put (inside {h = h} {payload = payload} {padding = padding} {s = s} i m within put) z from c = absurd (omega (arith, long h payload padding s))

-- all of them before what stands behind the level
abbrev High : {s t : List ℕ} → PutIn s t → Type 0
High {s = s} {t = t} put = (from c : ℕ) → from + length s ≤ c → length t ≡ length s + put_before put from c

-- behind an item, whose padding may be missing
behind_high : {n : ℕ} {padding s t : List ℕ} (put : PutIn s t) → Padded n padding s → High put → (from c : ℕ) → from + (n + (length padding + length s)) ≤ c
    → length t ≡ length s + put_before put (from + aligned n) c
behind_high {n = n} put (whole e) high from c l = high (from + aligned n) c (omega arith)
behind_high {n = n} put (missing k) high from c l =
    let none_behind = none_in put refl in
    let none-in-it = none_put put refl (from + aligned n) c in
    omega arith

pub put_high : {s t : List ℕ} (put : PutIn s t) → High put
unfolding put_before
put_high nothing from c l = omega arith
put_high (new {h = h} {payload = payload} {padding = padding} {s = s} {t = t} i front put) from c l =
    let All-here = le-leb from c (omega arith) in
    let rest = put_high put from c l in
    let padded = i.padded in
    let is_long = i.whole.is_long in
    let after = long h payload padding t in
    rw (All-here, is_long) (omega arith)
put_high (behind {h = h} {payload = payload} {padding = padding} {s = s} {t = t} i put) from c l =
    let before = long h payload padding s in
    let is_long = i.whole.is_long in
    let rest = behind_high put i.padded (λ f d k. put_high put f d k) (from + 8) c (omega arith) in
    let after = long h payload padding t in
    rw is_long (omega arith)
put_high (inside {h = h} {g = g} {payload = payload} {grown = grown} {padding = padding} {cushion = cushion} {s = s} {t = t} i m within put) from c l =
    let before = long h payload padding s in
    let is_long = i.whole.is_long in
    let inner = put_high within (from + 8) c (omega arith) in
    let rest = behind_high put i.padded (λ f d k. put_high put f d k) (from + 8) c (omega arith) in
    let alike = m.padded_alike in
    let after = long g grown cushion t in
    rw is_long (omega arith)

-- ---- the last item keeps its key

pub data Agree : Last → Last → Type 0 where
  both_none : Agree none none
  both_last : {at place : ℕ} {h g : KLV} → g.key ≡ h.key → Agree (last at h) (last place g)
  both_stopped : {why : Refusal} {at place : ℕ} → Agree (stopped why at) (stopped why place)

agree_or : (at place : ℕ) (h g : KLV) {l k : Last} → g.key ≡ h.key → Agree l k → Agree (or_else (last at h) l) (or_else (last place g) k)
agree_or at place h g e both_none = both_last e
agree_or at place h g e (both_last q) = both_last q
agree_or at place h g e both_stopped = both_stopped

agree_new : (place : ℕ) (g : KLV) {l k : Last} → (l ≡ none → ⊥) → Agree l k → Agree l (or_else (last place g) k)
agree_new place g some both_none = absurd (some refl)
agree_new place g some (both_last q) = both_last q
agree_new place g some both_stopped = both_stopped

-- wherever the level stands
pub agree_same : (level : Level) (at place : ℕ) → Agree (last_item level at) (last_item level place)
unfolding last_item
agree_same (left zero) at place = both_none
agree_same (left (suc n)) at place = both_stopped
agree_same broken at place = both_stopped
agree_same (node h payload within rest) at place = agree_or at place h h refl (agree_same rest (next_at at h) (next_at place h))

pub agree_key : {l k : Last} → Agree l k → key_of l ≡ key_of k
agree_key both_none = refl
agree_key (both_last e) = sym e
agree_key both_stopped = refl

-- THE LAST ITEM after putting in is the old one
pub agree_put : {s t : List ℕ} (at place : ℕ) → PutIn s t → Agree (last_item (items_of s) at) (last_item (items_of t) place)
unfolding last_item
agree_put at place (nothing {s = s}) = agree_same (items_of s) at place
agree_put at place (new {h = h} {s = s} {t = t} i front put) = rw (new_level i t) (agree_new place h (λ e. omega (arith, last_none s at e)) (agree_put at (next_at place h) put))
agree_put at place (behind {h = h} i put) = rw (old_level i, behind_level i put) (agree_or at place h h refl (agree_put (next_at at h) (next_at place h) put))
agree_put at place (inside {h = h} {g = g} i m within put) = rw (old_level i, inside_level i m within put) (agree_or at place h g m.same_key (agree_put (next_at at h) (next_at place g) put))
