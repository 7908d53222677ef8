-- The texts of a value: the one equation by fuel, the text of each row, and that all are well formed where the value is. Assumes nothing.
use Prim.Native.Nat.{ℕ, zero, suc, ◌+◌, ◌*◌, min, ◌<◌, ◌≤◌}
use mathlib.Core.Path.{◌≡◌, refl, sym, ap, ◌∙◌}
use mathlib.Core.Bool.{Bool, true, false, ◌&&◌, and-true}
use mathlib.Core.List.{List, [], ◌∷◌, ◌++◌}
use native.Mathlib.Nat.{not-suc-le-zero, suc-mul, zero-mul}
use native.Mathlib.Decide.{dec_le}
use native.Mathlib.Omega.{arith}
use lib.ListN.{length, take, drop, get_or, length-drop, drop_of_length-le}
use lib.Seq.{drop-drop, drop-nil, take-nil, take-length, take_at, drop_at}
use Rattle.foundation.specs.Fuel.{Falls, fix_eq}
use Rattle.foundation.proofs.Parts.{take_min}
use Rattle.texts.specs.Utf8.{well_formed}
use Rattle.texts.specs.Texts.{chunk_len, Chunk, step_chunks, chunks, is_well_formed_text, each, are_well_formed}

pub chunk : (size left : ℕ) → 0 < left → Chunk size left (chunk_len size left)
chunk zero left h = omega arith
chunk (suc n) left h = omega arith

-- past the end nothing is left
drop_min : (n : ℕ) (s : List ℕ) → drop (min n (length s)) s ≡ drop n s
drop_min n s = go (dec_le n (length s))
  where
    go : Dec (n ≤ length s) → drop (min n (length s)) s ≡ drop n s
    go (yes h) = let e : min n (length s) ≡ n = omega arith in ap (λ (k : ℕ). drop k s) e
    go (no h) = drop_of_length-le s {i = min n (length s)} (omega arith) ∙ sym (drop_of_length-le s {i = n} (omega arith))

falls : (size : ℕ) → Falls length [] (step_chunks size)
falls size f g [] same = refl
falls size f g (b ∷ s) same =
    let n = chunk_len size (length (b ∷ s)) in
    let fits = chunk size (length (b ∷ s)) (omega arith) in
    ap (λ (ts : List (List ℕ)). take n (b ∷ s) ∷ ts) (same (drop n (b ∷ s)) (omega (arith, length-drop n (b ∷ s), fits.some)))

module _ (size : ℕ) where
  pub chunks_none : chunks size [] ≡ []
  unfolding chunks
  chunks_none = fix_eq length [] (step_chunks size) (falls size) []

  -- THE EQUATION: the first text, and those behind it
  pub chunks_next : (s : List ℕ) → 0 < length s → chunks size s ≡ take (chunk_len size (length s)) s ∷ chunks size (drop (chunk_len size (length s)) s)
  unfolding chunks
  chunks_next [] h = absurd (not-suc-le-zero h)
  chunks_next (b ∷ s) h = fix_eq length [] (step_chunks size) (falls size) (b ∷ s)

  pub well_formed_none : (s : List ℕ) → length s ≡ 0 → are_well_formed size s ≡ true
  unfolding are_well_formed
  well_formed_none [] h = ap each chunks_none
  well_formed_none (b ∷ s) h = absurd (omega arith)

-- with size 0 all is one text
pub one_text : (s : List ℕ) → are_well_formed 0 s ≡ is_well_formed_text s
unfolding are_well_formed well_formed
one_text [] = well_formed_none 0 [] refl
one_text (b ∷ s) =
    ap each (chunks_next 0 (b ∷ s) (omega arith))
    ∙ rw (take-length s, drop_of_length-le s {i = length s} (omega arith), chunks_none 0) (and-true (is_well_formed_text (b ∷ s)))

and_true : (x y : Bool) → (x && y) ≡ true → (x ≡ true) × (y ≡ true)
and_true true y h = (refl, h)
and_true false y h = let o : ◌≡◌ {A = ℕ} 0 1 = cc in absurd (omega arith)

-- each of some texts
each_at : (ts : List (List ℕ)) (r : ℕ) → each ts ≡ true → is_well_formed_text (get_or ts r []) ≡ true
unfolding well_formed
each_at [] r h = refl
each_at (t ∷ ts) zero h = (and_true (is_well_formed_text t) (each ts) h).0
each_at (t ∷ ts) (suc r) h = each_at ts r (and_true (is_well_formed_text t) (each ts) h).1

-- ---- rows: with a size that is not 0, a row's text starts at so many sizes
module _ (size : ℕ) (some : 0 < size) where
  pub sized : (left : ℕ) → chunk_len size left ≡ min size left
  sized left = go size some
    where
      go : (n : ℕ) → 0 < n → chunk_len n left ≡ min n left
      go zero h = absurd (not-suc-le-zero h)
      go (suc n) h = refl

  -- the first text, and those behind it
  chunks_sized : (s : List ℕ) → 0 < length s → chunks size s ≡ take size s ∷ chunks size (drop size s)
  chunks_sized s h = chunks_next size s h ∙ ap (λ (n : ℕ). take n s ∷ chunks size (drop n s)) (sized (length s)) ∙ (λ i. take_min size s i ∷ chunks size (drop_min size s i))

  -- a text, and those behind it
  pub next_text : (s t u : List ℕ) (x : Bool) → s ≡ t ++ u → length t ≡ min size (length s) → 0 < length s → x ≡ is_well_formed_text t
      → are_well_formed size s ≡ (x && are_well_formed size u)
  unfolding are_well_formed
  next_text s t u x e n h k =
      let len : length t ≡ chunk_len size (length s) = n ∙ sym (sized (length s)) in
      let first : take (chunk_len size (length s)) s ≡ t = ap (take (chunk_len size (length s))) e ∙ take_at t u _ len in
      let rest : drop (chunk_len size (length s)) s ≡ u = ap (drop (chunk_len size (length s))) e ∙ drop_at t u _ len in
      ap each (chunks_next size s h) ∙ rw (first, rest, k)

  none_at : (r : ℕ) → get_or (chunks size []) r [] ≡ take size (drop (r * size) [])
  none_at r = ap (λ (ts : List (List ℕ)). get_or ts r []) (chunks_none size) ∙ sym (ap (take size) (drop-nil (r * size)) ∙ take-nil size)

  -- THE TEXT OF A ROW
  pub text_at_lem : (r : ℕ) (s : List ℕ) → get_or (chunks size s) r [] ≡ take size (drop (r * size) s)
  text_at_lem zero [] = none_at 0
  text_at_lem (suc r) [] = none_at (suc r)
  text_at_lem zero (b ∷ s) = ap (λ (ts : List (List ℕ)). get_or ts 0 []) (chunks_sized (b ∷ s) (omega arith)) ∙ ap (λ (n : ℕ). take size (drop n (b ∷ s))) (sym (zero-mul size))
  text_at_lem (suc r) (b ∷ s) =
      let up : size + r * size ≡ suc r * size = omega (arith, suc-mul r size) in
      ap (λ (ts : List (List ℕ)). get_or ts (suc r) []) (chunks_sized (b ∷ s) (omega arith)) ∙ text_at_lem r (drop size (b ∷ s))
      ∙ ap (take size) (drop-drop (r * size) size (b ∷ s) ∙ ap (λ (n : ℕ). drop n (b ∷ s)) up)

  -- as many texts as the repeat says
  pub count : (repeat : ℕ) (s : List ℕ) → length s ≡ repeat * size → length (chunks size s) ≡ repeat
  count zero [] h = ap length (chunks_none size)
  count zero (b ∷ s) h = absurd (omega (arith, h, zero-mul size))
  count (suc r) s h =
      let up = suc-mul r size in
      ap length (chunks_sized s (omega arith)) ∙ ap suc (count r (drop size s) (length-drop size s ∙ omega arith))

  -- each is well formed where the value is
  pub row_well_formed : (s : List ℕ) (r : ℕ) → are_well_formed size s ≡ true → is_well_formed_text (take size (drop (r * size) s)) ≡ true
  unfolding are_well_formed
  row_well_formed s r h = ap is_well_formed_text (sym (text_at_lem r s)) ∙ each_at (chunks size s) r h
