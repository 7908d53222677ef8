-- Texts laid one behind the other: one, some and then more, and the listing of a payload among them. Assumes nothing.
use Prim.Native.Nat.{ℕ}
use mathlib.Core.Path.{refl, sym, ◌∙◌}
use mathlib.Core.List.{List, [], ◌∷◌, ◌++◌}
use Rattle.reading.specs.Walk.{Outcome}
use Rattle.text.specs.Lay.{Lays}
use Rattle.listing.specs.Listing.{listing, Lists}
use Rattle.listing_line.specs.Lines.{laid_lines, behind_lines, LaysLines}
use Rattle.listing_line.proofs.Lines.{laid_more, behind_more}
use Rattle.take_lines.specs.Lines.{LaysAll}

pub none : {out : List ℕ} {at : ℕ} → LaysAll [] out at at out
unfolding laid_lines behind_lines
none = record { is = refl; leaves = refl }

pub one : {text out : List ℕ} {at answer : ℕ} {after : List ℕ} → Lays text out at answer after → LaysAll (text ∷ []) out at answer after
unfolding laid_lines behind_lines
one l = record { is = l.is; leaves = l.leaves }

pub lines : {texts : List (List ℕ)} {out : List ℕ} {at answer : ℕ} {after : List ℕ} → LaysLines texts out at answer after → LaysAll texts out at answer after
lines l = record { is = l.is; leaves = l.leaves }

pub listed : {outcome : Outcome} {old out : List ℕ} {at answer : ℕ} {new after : List ℕ} → Lists outcome old out at answer new after
    → LaysAll (listing outcome) out at answer after
listed l = record { is = l.is; leaves = l.leaves }

-- SOME, AND THEN MORE
pub more : {ls ks : List (List ℕ)} {out : List ℕ} {at middle : ℕ} {between : List ℕ} {answer : ℕ} {after : List ℕ}
    → LaysAll ls out at middle between → LaysAll ks between middle answer after → LaysAll (ls ++ ks) out at answer after
more {ls} {ks} {out} {at} first second =
    record {
      is = second.is ∙ rw (first.is, first.leaves) (sym (behind_more ls ks out at));
      leaves = second.leaves ∙ rw (first.is, first.leaves) (sym (laid_more ls ks out at));
    }
