-- Lines laid one behind the other: none, one, some and then more; and all of them together are their text, laid at once. Assumes nothing.
use Prim.Native.Nat.{ℕ, ◌≤◌, ◌<◌}
use mathlib.Core.Path.{◌≡◌, refl, sym, ap, ◌∙◌}
use mathlib.Core.List.{List, [], ◌∷◌, ◌++◌, append-nil, append_assoc, flatten}
use native.Mathlib.Omega.{arith}
use lib.ListN.{length, take, length-append}
use Rattle.text.specs.Lay.{full, laid, behind, Lays}
use Rattle.listing_line.specs.Lines.{laid_lines, behind_lines, LaysLines, Begins, Joins, Makes}
use Rattle.listing_line.proofs.Joining.{laid_long, joins, joins_then, begins}

pub lays_none : {out : List ℕ} {at : ℕ} → LaysLines [] out at at out
unfolding laid_lines behind_lines flatten
lays_none = record { is = refl; leaves = refl; short = omega arith }

-- ONE, as it was made
pub lays_made : {line buffer : List ℕ} {end : ℕ} {out : List ℕ} {at answer : ℕ} {after : List ℕ} → Makes line end buffer → Lays (take end buffer) out at answer after
    → LaysLines (line ∷ []) out at answer after
unfolding laid_lines behind_lines flatten
lays_made {line} {buffer} {end} {out} {at} {answer} {after} m lays =
    let l : Lays line out at answer after = rw (← m.begins.holds) lays in
    record { is = l.is; leaves = l.leaves; short = rw (append-nil line) (omega (arith, m.short)) }

pub laid_more : (ls ks : List (List ℕ)) (out : List ℕ) (at : ℕ) → laid_lines (ls ++ ks) out at ≡ laid_lines ks (laid_lines ls out at) (behind_lines ls out at)
unfolding laid_lines behind_lines
laid_more [] ks out at = refl
laid_more (l ∷ ls) ks out at = laid_more ls ks (laid out at l) (behind out at l)

pub behind_more : (ls ks : List (List ℕ)) (out : List ℕ) (at : ℕ) → behind_lines (ls ++ ks) out at ≡ behind_lines ks (laid_lines ls out at) (behind_lines ls out at)
unfolding laid_lines behind_lines
behind_more [] ks out at = refl
behind_more (l ∷ ls) ks out at = behind_more ls ks (laid out at l) (behind out at l)

flatten_append : (ls ks : List (List ℕ)) → flatten (ls ++ ks) ≡ flatten ls ++ flatten ks
unfolding flatten
flatten_append [] ks = refl
flatten_append (l ∷ ls) ks = ap (λ (s : List ℕ). l ++ s) (flatten_append ls ks) ∙ sym (append_assoc l (flatten ls) (flatten ks))

-- SOME, AND THEN MORE
pub lays_more : {ls ks : List (List ℕ)} {out : List ℕ} {at middle : ℕ} {between : List ℕ} {answer : ℕ} {after : List ℕ}
    → LaysLines ls out at middle between → LaysLines ks between middle answer after → LaysLines (ls ++ ks) out at answer after
lays_more {ls} {ks} {out} {at} first second =
    record {
      is = second.is ∙ rw (first.is, first.leaves) (sym (behind_more ls ks out at));
      leaves = second.leaves ∙ rw (first.is, first.leaves) (sym (laid_more ls ks out at));
      short = rw (flatten_append ls ks, length-append (flatten ls) (flatten ks), length-append ls ks) (omega (arith, first.short, second.short));
    }

-- ALL TOGETHER: the place behind the lines is the place behind their text, and the buffer has their text unless that is `full`
pub lines_join : (line : List ℕ) (lines : List (List ℕ)) (out : List ℕ) (at : ℕ) → length out < full
    → Joins (flatten (line ∷ lines)) out at (behind_lines (line ∷ lines) out at) (laid_lines (line ∷ lines) out at)
unfolding laid_lines behind_lines flatten
lines_join line [] out at small = rw (append-nil line) (joins (record { is = refl; leaves = refl }))
lines_join line (next ∷ lines) out at small =
    let rest = lines_join next lines (laid out at line) (behind out at line) (rw (laid_long out at line) small) in
    joins_then small (laid_long out at line) (joins (record { is = refl; leaves = refl })) rest

-- ALL OF THEM at the start of a buffer that holds them: it begins with their text
pub lines_begin : (line : List ℕ) (lines : List (List ℕ)) (out : List ℕ) {answer : ℕ} {after : List ℕ} → length (flatten (line ∷ lines)) ≤ length out → length out < full
    → length after ≡ length out → answer ≡ behind_lines (line ∷ lines) out 0 → after ≡ laid_lines (line ∷ lines) out 0 → Begins (flatten (line ∷ lines)) answer after
lines_begin line lines out fits small long is leaves = begins out fits small long (rw (is, leaves) (lines_join line lines out 0 small))
