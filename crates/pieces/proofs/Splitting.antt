-- The pieces of a text: the first reaches up to the first b, and behind that byte stand the others. Assumes nothing.
use Prim.Native.Nat.{ℕ, suc, ◌+◌, ◌≤◌, ◌<◌}
use mathlib.Core.Path.{◌≡◌, refl, ap, ◌∙◌}
use mathlib.Core.Bool.{Bool, true, false, cond}
use mathlib.Core.List.{List, [], ◌∷◌}
use native.Mathlib.Nat.{le_refl}
use native.Mathlib.Numerals.{add-one}
use native.Mathlib.Omega.{arith}
use lib.Dec.{eqb}
use lib.ListN.{length, get_or, take, drop, drop_of_length-le}
use lib.Seq.{drop-cons, length-take-le}
use mir.Val.{bool_byte}
use Rattle.std.proofs.Common.{nat_eq}
use Rattle.std.specs.Prelude.{◌==◌}
use Rattle.std.specs.List.{slice_split, onto_first}
use Rattle.foundation.specs.Pieces.{count_one, before, in_front, ends, pieces_of}
use Rattle.pieces.specs.Piece.{up_to}

one_more : (t : Bool) (n m : ℕ) → n ≤ m → count_one t n ≤ suc m
one_more true n m h = omega arith
one_more false n m h = omega arith

pub before_length : (b : ℕ) (s : List ℕ) → before b s ≤ length s
before_length b [] = le_refl 0
before_length b (c ∷ s) = one_more (eqb c b) (before b s) (length s) (before_length b s)

-- the pieces behind the first
abbrev behind_if : Bool → List (List ℕ) → List (List ℕ) → List (List ℕ)
behind_if true all more = all
behind_if false all more = more

abbrev behind : ℕ → List ℕ → List (List ℕ)
behind b [] = []
behind b (c ∷ s) = behind_if (eqb c b) (pieces_of b s) (behind b s)

first_piece : (b : ℕ) (s : List ℕ) → pieces_of b s ≡ up_to b s ∷ behind b s
first_piece b [] = refl
first_piece b (c ∷ s) = by (eqb c b) (first_piece b s)
  where
    by : (t : Bool) → pieces_of b s ≡ up_to b s ∷ behind b s
        → ends t c (pieces_of b s) ≡ take (count_one t (before b s)) (c ∷ s) ∷ behind_if t (pieces_of b s) (behind b s)
    by true ih = refl
    by false ih = ap (in_front c) ih

-- THE LENGTH of the first piece
pub first_length : (b : ℕ) (s : List ℕ) → length (get_or (pieces_of b s) 0 []) ≡ before b s
first_length b s = rw (first_piece b s) (length-take-le (before b s) s (before_length b s))

-- THE PIECES are the parts that std's `split` gives
pub parts : (b : ℕ) (s : List ℕ) → slice_split (λ c. c == b) s ≡ pieces_of b s
parts b [] = refl
parts b (c ∷ s) = by (eqb c b) (parts b s)
  where
    front : (l : List (List ℕ)) → onto_first c l ≡ in_front c l
    front [] = refl
    front (piece ∷ more) = refl

    by : (t : Bool) → slice_split (λ c. c == b) s ≡ pieces_of b s
        → cond t ([] ∷ slice_split (λ c. c == b) s) (onto_first c (slice_split (λ c. c == b) s)) ≡ ends t c (pieces_of b s)
    by true ih = ap (λ (l : List (List ℕ)). [] ∷ l) ih
    by false ih = front (slice_split (λ c. c == b) s) ∙ ap (in_front c) ih

-- COUNTING: a byte that ends a piece makes one more
pub piece_counts : (b : ℕ) (s : List ℕ) (i : ℕ) → i < length s
    → length (pieces_of b (drop i s)) ≡ bool_byte (nat_eq (get_or s i 0) b) + length (pieces_of b (drop (i + 1) s))
piece_counts b s i h = rw (drop-cons s i 0 h, add-one i) (by (eqb (get_or s i 0) b))
  where
    rest : List ℕ
    rest = drop (suc i) s

    by : (t : Bool) → length (ends t (get_or s i 0) (pieces_of b rest)) ≡ bool_byte t + length (pieces_of b rest)
    by true = omega arith
    by false = rw (first_piece b rest) (omega arith)

pub at_most_one : (t : Bool) → bool_byte t ≤ 1
at_most_one true = omega arith
at_most_one false = omega arith

-- THE LAST PIECE is there where no byte is left
pub last_piece : (b : ℕ) (s : List ℕ) (i : ℕ) → length s ≤ i → length (pieces_of b (drop i s)) ≡ 1
last_piece b s i h = rw (drop_of_length-le s h)
