-- What each kind of character does to what is held: it follows the expansion. Assumes nothing.
use Prim.Native.Nat.{ℕ, ◌-◌}
use mathlib.Core.Path.{◌≡◌, refl, sym, ap, subst, ◌∙◌}
use mathlib.Core.Bool.{Bool, true, false, cond, not}
use mathlib.Core.List.{List, [], ◌∷◌, ◌++◌, append-nil}
use Rattle.custom_type.specs.declared.count.Count.{Count}
use Rattle.custom_type.specs.declared.step.Held.{Held}
use Rattle.custom_type.specs.declared.step.Turn.{Turn}
use Rattle.custom_type.specs.Number.{number_in}
use Rattle.custom_type.specs.Expansion.{Expansion, Mark, mark_of, step_by, copied, opened, closed, letter_by, with_letter, step}
use Rattle.custom_type.specs.Held.{is_empty, count_of, number_of, next_count, last_copied, held_of, Follows, Turned}
use Rattle.custom_type.proofs.Number.{count_more, count_number}
use Rattle.custom_type.proofs.Last.{letter_last, letter_some, copies_last, copies_some, copies_run}

-- what is held, with other things held of the number or the brackets
abbrev with : Held → Bool → Count → Held
with h collecting k = record { written = h.written; last = h.last; collecting = collecting; count = k }

pub opened_follows : (h : Held) → Turned h opened (record { held = with h true h.count; character = 0; times = 0 })
opened_follows h x e = record { held = ap (λ (h : Held). with h true h.count) e; wrote = sym (append-nil x.written) }

-- behind a `]`: copies change neither whether there is a last character nor how it is copied
behind : (h : Held) (k : Count) (x : Expansion) → k ≡ count_of [] → h ≡ held_of x → with h false k ≡ held_of (closed x)
behind h k x none e =
    let n = number_in x.collected - 1 in
    ap (λ (h : Held). with h false k) e ∙ rw (none, copies_some n x.written, copies_last n x.written)

pub copies_follow : (h : Held) (k : Count) (n : ℕ) → k ≡ count_of [] → n ≡ cond h.written (number_of h.count - 1) 0
    → Turned h closed (record { held = with h false k; character = h.last; times = n })
copies_follow h k n none q x e =
    let often : n ≡ cond (not (is_empty x.written)) (number_in x.collected - 1) 0 = q ∙ ap (λ (h : Held). cond h.written (number_of h.count - 1) 0) e ∙ ap (λ (m : ℕ). cond (not (is_empty x.written)) (m - 1) 0) (count_number x.collected) in
    let last : h.last ≡ last_copied x.written = ap (λ (h : Held). h.last) e in
    record {
      held = behind h k x none e;
      wrote = ap (λ (s : List ℕ). x.written ++ s) (copies_run (number_in x.collected - 1) x.written ∙ rw (often, last));
    }

pub collected_follows : (h : Held) (c : ℕ) (k : Count) → h.collecting ≡ true → k ≡ next_count h.count c
    → Turned h (λ x. with_letter x c) (record { held = with h h.collecting k; character = 0; times = 0 })
collected_follows h c k b n x e =
    let collecting : x.collecting ≡ true = sym (ap (λ (h : Held). h.collecting) e) ∙ b in
    let count : k ≡ count_of (x.collected ++ c ∷ []) = n ∙ ap (λ (h : Held). next_count h.count c) e ∙ sym (count_more x.collected c) in
    subst (λ (b : Bool). Follows x (letter_by b x c) (record { held = with h h.collecting k; character = 0; times = 0 })) (sym collecting)
    (record { held = ap (λ (h : Held). with h h.collecting k) e ∙ rw (collecting, count); wrote = sym (append-nil x.written) })

pub letter_follows : (h : Held) (c d : ℕ) → h.collecting ≡ false → d ≡ copied c
    → Turned h (λ x. with_letter x c) (record { held = record { written = true; last = d; collecting = h.collecting; count = h.count }; character = c; times = 1 })
letter_follows h c d b q x e =
    let standing : x.collecting ≡ false = sym (ap (λ (h : Held). h.collecting) e) ∙ b in
    subst
    (λ (b : Bool). Follows x (letter_by b x c) (record { held = record { written = true; last = d; collecting = h.collecting; count = h.count }; character = c; times = 1 }))
    (sym standing)
    (record {
      held =
          ap (λ (h : Held). record { written = true; last = d; collecting = h.collecting; count = h.count }) e
          ∙ rw (standing, q, letter_last x.written c, letter_some x.written c);
      wrote = refl;
    })

-- what a character is, by the code's tests
pub step_follows : (h : Held) (c : ℕ) (m : Mark) (t : Turn) → mark_of c ≡ m → Turned h (λ x. step_by m x c) t → Turned h (λ x. step x c) t
unfolding step
step_follows h c m t e f x k = subst (λ (m : Mark). Follows x (step_by m x c) t) (sym e) (f x k)
