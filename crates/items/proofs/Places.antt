-- The item and the TYPE text at a place, as the parts of the payload that they are. Assumes nothing.
use Prim.Native.Nat.{ℕ, ◌+◌, ◌-◌, ◌<◌, ◌≤◌}
use Prim.Native.Char.{code}
use mathlib.Core.Path.{◌≡◌, refl, sym, ap, ◌∙◌, subst}
use mathlib.Core.Bool.{Bool, true, false, not, ◌&&◌}
use mathlib.Core.List.{List, [], ◌∷◌}
use native.Mathlib.Omega.{arith}
use borrow.Author.Tests.{eq-eqb, ne_eqb, not-true, not-false, lt-ltb, le-ltb}
use lib.Dec.{ltb}
use lib.ListN.{length, take, drop, get_or, length-take, length-drop}
use lib.Seq.{take-take, get_or-drop}
use Rattle.klv.specs.declared.KLV.{KLV}
use Rattle.std.specs.Prelude.{Option, Some, None, Result, Ok, Err}
use Rattle.foundation.specs.declared.refusal.Refusal.{Refusal}
use Rattle.foundation.specs.Refusals.{refused_at}
use Rattle.std.specs.Option.{ok_or}
use Rattle.klv.specs.declared.Broken.{Broken}
use Rattle.klv.specs.declared.Broken.TheVariants.{Short, Past}
use Rattle.klv.specs.Item.{data_len, First, item, first_item, payload_at, next_at}
use Rattle.klv.specs.Header.{header_at}
use Rattle.klv.specs.OneText.{type_text}
use Rattle.klv.proofs.Item.{item_lengths, by_first_lem, first_few}
use Rattle.klv.proofs.Place.{at_item}
use Rattle.klv.proofs.Place as Place
use Rattle.texts.specs.Kept.{kept}
use Rattle.texts.proofs.Kept.{kept_front, kept_length}
use Rattle.items.specs.declared.Span.{Span}
use Rattle.items.specs.declared.Item.{Item}
use Rattle.items.specs.At as At
use Rattle.items.specs.At.{Named, named, bad, type_of, type_named_at, type_for, found, stopped, over_if, whole_if, found_by, found_at}
use Rattle.items.specs.Parts.{between, IsPart, text_at, text_for, type_told, TypeInside, Begins, TypeIs, places_of, ItemIs}

-- ---- the TYPE text at a place

-- the header that was read is the one at the place asked
pub heard : (s : List ℕ) {at place : ℕ} {r x : Result KLV Broken} → at ≡ place → r ≡ header_at s at → r ≡ x → header_at s place ≡ x
heard s here read told = ap (header_at s) (sym here) ∙ sym read ∙ told

none_named : (s : List ℕ) → IsPart 0 0 s
none_named s = record { order = omega arith; inside = omega arith }

module _ (s : List ℕ) (at : ℕ) where
  pub type_none : at ≡ 4294967295 → TypeIs s (type_named_at s at) (text_at at) (Some (record { start = 0; end = 0 }))
  unfolding type_named_at
  type_none e =
      let none = eq-eqb at 4294967295 e in
      record { told = sym (simp none); inside = none_named s; begins = sym (simp none) }

  module _ (n : at ≡ 4294967295 → ⊥) where
    asked : type_named_at s at ≡ type_of (first_item (drop at s))
    unfolding type_named_at
    asked = simp (ne_eqb at 4294967295 n)

    pub type_by : (r : Option Span) → TypeIs s (type_of (first_item (drop at s))) (at + 8) r → TypeIs s (type_named_at s at) (text_at at) r
    type_by r t =
        let behind : at + 8 ≡ text_at at = sym (simp (ne_eqb at 4294967295 n)) in
        record { told = t.told ∙ sym asked; inside = t.inside; begins = subst (λ (k : ℕ). Begins k r) behind t.begins }

    pub type_broken : (e : Broken) → header_at s at ≡ Err e → TypeIs s (type_named_at s at) (text_at at) None
    type_broken Short e = record { told = sym (asked ∙ ap type_of (Place.first_short s at e)); inside = tt; begins = tt }
    type_broken Past e = record { told = sym (asked ∙ ap type_of (Place.first_past s at e)); inside = tt; begins = tt }

both : (a : Bool) → (a && false) ≡ false
both true = refl
both false = refl

module _ (s : List ℕ) (at : ℕ) (h : KLV) (is_item : header_at s at ≡ Ok h) where
  abbrev payload : List ℕ
  payload = payload_at s at h

  first : first_item (drop at s) ≡ item h payload (drop (next_at at h) s)
  first = Place.first_item_lem s at h is_item

  long : length payload ≡ data_len h
  long = (item_lengths (drop at s) h payload (drop (next_at at h) s) first).is_data

  pub fits : at + 8 + data_len h ≤ length s
  fits = (at_item s at h is_item).fits

  pub type_empty : (len : ℕ) → len ≡ data_len h → len ≡ 0 → TypeIs s (type_of (first_item (drop at s))) (at + 8) None
  type_empty len e z = record { told = sym (ap type_of first ∙ simp (le-ltb 0 (length payload) (omega (arith, long)), both)); inside = tt; begins = tt }

  pub type_other : (t : Bool) → t ≡ type_text h → not t ≡ true → TypeIs s (type_of (first_item (drop at s))) (at + 8) None
  type_other t e n = record { told = sym (ap type_of first ∙ simp (sym e ∙ not-true t n)); inside = tt; begins = tt }

  pub type_is : (len t-start k : ℕ) (t : Bool) → len ≡ data_len h → (len ≡ 0 → ⊥) → t ≡ type_text h → not t ≡ false → t-start ≡ at + 8
      → k ≡ length (kept (take (t-start + len - t-start) (drop t-start s)))
      → TypeIs s (type_of (first_item (drop at s))) (at + 8) (Some (record { start = t-start; end = t-start + k }))
  type_is len t-start k t e n et f es ek =
      let size : t-start + len - t-start ≡ data_len h = omega arith in
      let part : take (t-start + len - t-start) (drop t-start s) ≡ payload = (λ i. take (size i) (drop (es i) s)) in
      let count : k ≡ length (kept payload) = ek ∙ ap (λ (l : List ℕ). length (kept l)) part in
      let most : length (kept payload) ≤ data_len h = omega (arith, kept_length payload, long) in
      let text : take (length (kept payload)) (drop (at + 8) s) ≡ kept payload = sym (take-take (length (kept payload)) (data_len h) (drop (at + 8) s) most) ∙ kept_front payload in
      let cut : t-start + k - t-start ≡ length (kept payload) = omega arith in
      let told : between t-start (t-start + k) s ≡ kept payload = (λ i. take (cut i) (drop (es i) s)) ∙ text in
      let some : ltb 0 (length payload) ≡ true = lt-ltb 0 (length payload) (omega (arith, long, n)) in
      record {
        told = ap named told ∙ sym (ap type_of first ∙ simp (sym et ∙ not-false t f, some));
        inside = record { order = omega arith; inside = omega (arith, fits) };
        begins = es;
      }

-- ---- the TYPE text that an item asks for
module _ (letter : ℕ) (s : List ℕ) (at : ℕ) where
  pub type_asked : (r : Option Span) → letter ≡ code "?" → TypeIs s (type_named_at s at) (text_at at) r → TypeIs s (type_for letter s at) (text_for letter at) r
  type_asked r e t = rw (eq-eqb letter (code "?") e) t

  pub type_unasked : (letter ≡ code "?" → ⊥) → TypeIs s (type_for letter s at) (text_for letter at) (Some (record { start = 0; end = 0 }))
  type_unasked n =
      let other = ne_eqb letter (code "?") n in
      record { told = sym (simp other); inside = none_named s; begins = sym (simp other) }

-- ---- what was found

refused : (s : List ℕ) (f : At.Found) (at type number k : ℕ) → f ≡ stopped number k → (r : Refusal) → r ≡ refused_at number k → ItemIs s f at type (Err r)
refused s f at type number k e r er =
    let told : stopped r.number r.place ≡ f = (λ i. stopped (er i).number (er i).place) ∙ sym e in
    record { is = ap Err er ∙ sym (ap (λ (x : At.Found). places_of x at type) e); told = told; inside = tt }

-- a TYPE place that names no text, and one that does
module _ (s : List ℕ) (n : Named) (from : ℕ) (r : Option Span) (is_type : TypeIs s n from r) where
  is_bad : r ≡ None → n ≡ bad
  is_bad e = sym is_type.told ∙ ap (type_told s) e

  pub over_bad : (at type : ℕ) → r ≡ None → (q : Refusal) → q ≡ refused_at 12 at → ItemIs s (over_if n at) at type (Err q)
  over_bad at type e = refused s (over_if n at) at type 12 at (ap (λ (x : Named). over_if x at) (is_bad e))

  module _ (x : Span) (e : r ≡ Some x) where
    is_named : n ≡ named (between x.start x.end s)
    is_named = sym is_type.told ∙ ap (type_told s) e

    is_part : IsPart x.start x.end s
    is_part = subst (TypeInside s) e is_type.inside

    is_from : x.start ≡ from
    is_from = subst (Begins from) e is_type.begins

    pub over_named : (at type : ℕ) → (q : Refusal) → q ≡ refused_at 2 at → ItemIs s (over_if n at) at type (Err q)
    over_named at type = refused s (over_if n at) at type 2 at (ap (λ (x : Named). over_if x at) is_named)

-- where a refusal stands for no TYPE text, there is one where none is refused
pub some_of : {E : Type 0} {x : Span} (r : Option Span) (e : E) → ok_or r e ≡ Ok x → r ≡ Some x
some_of (Some y) e is = cc
some_of None e is = cc

-- a part ends its own length behind its start
part_ends : (start end : ℕ) (s : List ℕ) → IsPart start end s → end ≡ start + length (between start end s)
part_ends start end s p = simp (length-take, length-drop) (omega (arith, p.order, p.inside))

by_payload : (h : KLV) (p rest s : List ℕ) (at type : ℕ) → (length p ≡ 0 → ⊥)
    → found_by (item h p rest) s at type ≡ whole_if (type_for h.data_type s type) h p at
by_payload h [] rest s at type n = absurd (n refl)
by_payload h (b ∷ p) rest s at type n = refl

no_payload : (h : KLV) (p rest s : List ℕ) (at type : ℕ) → length p ≡ 0 → found_by (item h p rest) s at type ≡ stopped 12 at
no_payload h [] rest s at type e = refl
no_payload h (b ∷ p) rest s at type e = absurd (omega arith)

module _ (s : List ℕ) (at type : ℕ) (h : KLV) (is_item : header_at s at ≡ Ok h) (len : ℕ) (is-len : len ≡ data_len h) where
  by_first_item : found_by (first_item (drop at s)) s at type ≡ found_by (item h (payload_at s at h) (drop (next_at at h) s)) s at type
  by_first_item = ap (λ (x : First). found_by x s at type) (first s at h is_item)

  pub whole_empty : len ≡ 0 → (q : Refusal) → q ≡ refused_at 12 at → ItemIs s (found_by (first_item (drop at s)) s at type) at type (Err q)
  whole_empty e =
      refused s (found_by (first_item (drop at s)) s at type) at type 12 at (by_first_item ∙ no_payload h (payload_at s at h) (drop (next_at at h) s) s at type (omega (arith, long s at h is_item)))

  module _ (n : len ≡ 0 → ⊥) (r : Option Span) (is_type : TypeIs s (type_for h.data_type s type) (text_for h.data_type type) r) where
    abbrev from : ℕ
    from = text_for h.data_type type

    by_type : (x : Named) → type_for h.data_type s type ≡ x → found_by (first_item (drop at s)) s at type ≡ whole_if x h (payload_at s at h) at
    by_type x e =
        by_first_item
        ∙ by_payload h (payload_at s at h) (drop (next_at at h) s) s at type (λ z. n (omega (arith, long s at h is_item)))
        ∙ ap (λ (y : Named). whole_if y h (payload_at s at h) at) e

    pub whole_bad : r ≡ None → (q : Refusal) → q ≡ refused_at 12 at → ItemIs s (found_by (first_item (drop at s)) s at type) at type (Err q)
    whole_bad e =
        refused s (found_by (first_item (drop at s)) s at type) at type 12 at (by_type bad (is_bad s (type_for h.data_type s type) from r is_type e))

    pub whole_found : (x : Span) → r ≡ Some x
        → ItemIs s (found_by (first_item (drop at s)) s at type) at type (Ok (record { klv = h; payload = record { start = at + 8; end = at + 8 + len }; type_text = x }))
    whole_found x e =
        let size : data_len h ≡ at + 8 + len - (at + 8) = omega arith in
        let part : IsPart (at + 8) (at + 8 + len) s = record { order = omega arith; inside = omega (arith, fits s at h is_item) } in
        let its : IsPart x.start x.end s = is_part s (type_for h.data_type s type) from r is_type x e in
        let begins : x.start ≡ from = is_from s (type_for h.data_type s type) from r is_type x e in
        let text : List ℕ = between x.start x.end s in
        let ends : x.end ≡ from + length text = part_ends x.start x.end s its ∙ ap (λ (k : ℕ). k + length text) begins in
        let there : found_by (first_item (drop at s)) s at type ≡ found h (between (at + 8) (at + 8 + len) s) text = by_type (named text) (is_named s (type_for h.data_type s type) from r is_type x e) ∙ ap (λ (k : ℕ). found h (take k (drop (at + 8) s)) text) size in
        record {
          is = (λ i. Ok (record { klv = h; payload = record { start = at + 8; end = part_ends (at + 8) (at + 8 + len) s part i }; type_text = record { start = begins i; end = ends i } })) ∙ sym (ap (λ (x : At.Found). places_of x at type) there);
          told = sym there;
          inside = (part, its);
        }

-- ---- the item at a place
module _ (s : List ℕ) (at type : ℕ) where
  pub at_limit : 1048576 < length s → (q : Refusal) → q ≡ refused_at 1 0 → ItemIs s (found_at s at type) at type (Err q)
  unfolding found_at
  at_limit h = refused s (found_at s at type) at type 1 0 (simp (lt-ltb 1048576 (length s) h))

  pub past_room : header_at s at ≡ Err Past → at + 8 ≤ length s
  past_room e =
      let k = Place.first_past s at e in
      by_first_lem (drop at s) (at + 8 ≤ length s)
      (λ l. let q = first_few (drop at s) l in let o : ◌≡◌ {A = ℕ} 0 1 = cc in absurd (omega arith))
      (λ a l. omega (arith, length-drop at s))
      (λ a l. omega (arith, length-drop at s))

  module _ (h : length s ≤ 1048576) where
    within : found_at s at type ≡ found_by (first_item (drop at s)) s at type
    unfolding found_at
    within = simp (le-ltb 1048576 (length s) h)

    pub at_short : header_at s at ≡ Err Short → (q : Refusal) → q ≡ refused_at 12 at → ItemIs s (found_at s at type) at type (Err q)
    at_short e = refused s (found_at s at type) at type 12 at (within ∙ ap (λ (x : First). found_by x s at type) (Place.first_short s at e))

    pub at_whole : (r : Result Item Refusal) → ItemIs s (found_by (first_item (drop at s)) s at type) at type r → ItemIs s (found_at s at type) at type r
    at_whole r = subst (λ (f : At.Found). ItemIs s f at type r) (sym within)

    pub at_over : (r : Result Item Refusal) → header_at s at ≡ Err Past → ItemIs s (over_if (type_for (get_or s (at + 4) 0) s type) at) at type r → ItemIs s (found_at s at type) at type r
    at_over r e =
        subst (λ (f : At.Found). ItemIs s f at type r)
        (sym (within ∙ ap (λ (x : First). found_by x s at type) (Place.first_past s at e) ∙ ap (λ (l : ℕ). over_if (type_for l s type) at) (get_or-drop at s 4 0)))

-- ---- for callers: what is answered of the places is answered of what was found
module _ {s : List ℕ} {f : At.Found} {at type : ℕ} where
  pub by_refusal : {r : Refusal} → ItemIs s f at type (Err r) → {A : Type 0} (answer : At.Found → A) → answer (stopped r.number r.place) ≡ answer f
  by_refusal is_item answer = ap answer is_item.told

  pub by_item : {item : Item} → ItemIs s f at type (Ok item) → {A : Type 0} (answer : At.Found → A) {payload text : List ℕ}
      → payload ≡ between item.payload.start item.payload.end s → text ≡ between item.type_text.start item.type_text.end s
      → {x : A} → x ≡ answer (found item.klv payload text) → x ≡ answer f
  by_item {item = it} is_item answer is-payload is-text is = is ∙ (λ i. answer (found it.klv (is-payload i) (is-text i))) ∙ ap answer is_item.told
