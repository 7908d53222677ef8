-- Texts laid one behind the other are the texts joined; and one that fits, laid at the start of a buffer, is what the buffer begins with. Assumes nothing.
use Prim.Native.Nat.{ℕ, ◌+◌, ◌≤◌, ◌<◌}
use mathlib.Core.Path.{◌≡◌, refl, sym, ap, ◌∙◌}
use mathlib.Core.Bool.{Bool, true, false, cond}
use mathlib.Core.List.{List, ◌++◌}
use native.Mathlib.Nat.{zero-add}
use native.Mathlib.Omega.{arith}
use borrow.Author.Tests.{leb-true, le-leb, lt-leb}
use lib.Dec.{leb}
use lib.ListN.{length, drop, length-append, length-take, length-drop}
use lib.Seq.{length-take-le, take-append_seam}
use Rattle.text.specs.Lay.{full, fits, over, laid, behind, Lays}
use Rattle.text.proofs.Laying.{lays_both}
use Rattle.listing_line.specs.Lines.{longest_line, Begins, Joins, Makes}

module _ (out : List ℕ) (at : ℕ) (text : List ℕ) where
  -- a text that is laid leaves a buffer as long as it was
  pub laid_long : length (laid out at text) ≡ length out
  unfolding laid
  laid_long = by (fits out at text) refl
    where
      by : (t : Bool) → fits out at text ≡ t → length (cond t (over out at text) out) ≡ length out
      by true e =
          let h : at + length text ≤ length out = leb-true _ _ e in
          simp (length-append, length-take, length-drop) (omega arith)
      by false e = refl

-- a text laid at once
pub joins : {text out : List ℕ} {at answer : ℕ} {after : List ℕ} → Lays text out at answer after → Joins text out at answer after
joins l = record { is = l.is; leaves = λ f. l.leaves }

-- nothing fits behind a text that does not fit
pub behind_full : (out text : List ℕ) → length out < full → behind out full text ≡ full
unfolding behind
behind_full out text h = rw (lt-leb (full + length text) (length out) (omega arith))

-- the place behind a text is told by the buffer's length alone
pub behind_long : (out other : List ℕ) (at : ℕ) (text : List ℕ) → length out ≡ length other → behind out at text ≡ behind other at text
unfolding behind
behind_long out other at text e = rw e

-- ONE BEHIND THE OTHER
pub joins_then : {a b out : List ℕ} {at middle : ℕ} {between : List ℕ} {answer : ℕ} {after : List ℕ} → length out < full → length between ≡ length out
    → Joins a out at middle between → Joins b between middle answer after → Joins (a ++ b) out at answer after
joins_then {a} {b} {out} {at} {middle} {between} {answer} {after} small long first second =
    let mid : List ℕ = laid out at a in
    let place : answer ≡ behind mid middle b = second.is ∙ behind_long between mid middle b (long ∙ sym (laid_long out at a)) in
    let both = lays_both a b out at middle mid answer (laid mid middle b) small (record { is = first.is; leaves = refl }) (record { is = place; leaves = refl }) in
    let not_full : (answer ≡ full → ⊥) → middle ≡ full → ⊥ =
    λ f e. f (second.is ∙ ap (λ (m : ℕ). behind between m b) e ∙ behind_full between b (omega arith))
    in
    record {
      is = both.is;
      leaves = λ f. second.leaves f ∙ ap (λ (s : List ℕ). laid s middle b) (first.leaves (not_full f)) ∙ both.leaves f;
    }

-- A TEXT that fits, laid at the start of a buffer
pub begins : {text : List ℕ} (out : List ℕ) {answer : ℕ} {after : List ℕ} → length text ≤ length out → length out < full → length after ≡ length out
    → Joins text out 0 answer after → Begins text answer after
unfolding laid behind
begins {text} out {answer} {after} h small long j =
    let fit : leb (0 + length text) (length out) ≡ true = le-leb (0 + length text) (length out) (omega arith) in
    let end : answer ≡ length text = j.is ∙ rw fit (zero-add (length text)) in
    let whole : after ≡ text ++ drop (0 + length text) out = j.leaves (λ e. omega arith) ∙ rw fit in
    record {
      is = end;
      within = omega arith;
      counts = sym (length-take-le answer after (omega arith));
      holds = rw (whole, end) (take-append_seam text (drop (0 + length text) out));
    }

-- A LINE made so
pub makes : {line : List ℕ} (out : List ℕ) {answer : ℕ} {after : List ℕ} → length line ≤ longest_line → longest_line ≤ length out → length out < full
    → length after ≡ length out → Joins line out 0 answer after → Makes line answer after
makes out short h small long j = record { begins = begins out (omega arith) small long j; short = short }
