-- Other payload bytes in the new items, and nothing else changed. Demand 3: "Changing payload bytes of new items alters no old record."
-- Assumes nothing: these are definitions.
use Rattle.std.specs.Prelude.{ℕ, List, ◌++◌}
use Rattle.klv.specs.declared.KLV.{KLV}
use Rattle.klv.specs.Item.{laid_out}
use Rattle.newer_camera.specs.PutIn.{IsNew, IsOld, Matches, Reached, PutIn, nothing, new, behind, inside}

-- OTHER BYTES: the bytes before, the bytes after, how they were put in, and the bytes after with other payloads, of the same lengths, in the new items
pub data OtherBytes : (s t : List ℕ) → PutIn s t → List ℕ → Type 0 where
  in_nothing : {s : List ℕ} → OtherBytes s s nothing s
  -- the same header, another payload; the padding may be another too
  in_new : {h : KLV} {payload padding other cushion s t u : List ℕ} {i : IsNew h payload padding} {front : Reached s} {put : PutIn s t} → IsNew h other cushion → OtherBytes s t put u
      → OtherBytes s (laid_out h payload padding ++ t) (new i front put) (laid_out h other cushion ++ u)
  -- an old item stays
  behind_old : {h : KLV} {payload padding s t u : List ℕ} {i : IsOld h payload padding s} {put : PutIn s t} → OtherBytes s t put u
      → OtherBytes (laid_out h payload padding ++ s) (laid_out h payload padding ++ t) (behind i put) (laid_out h payload padding ++ u)
  -- a container's header stays; its padding may be another
  inside_old : {h g : KLV} {payload grown other padding cushion filling s t u : List ℕ} {i : IsOld h payload padding s} {m : Matches h g grown padding cushion} {within : PutIn payload grown} {put : PutIn s t}
      → Matches h g other padding filling → OtherBytes payload grown within other → OtherBytes s t put u
      → OtherBytes (laid_out h payload padding ++ s) (laid_out g grown cushion ++ t) (inside i m within put) (laid_out g other filling ++ u)

-- they come of putting in too
unfoldable pub put_again : {s t u : List ℕ} {put : PutIn s t} → OtherBytes s t put u → PutIn s u
put_again in_nothing = nothing
put_again (in_new {front = front} j o) = new j front (put_again o)
put_again (behind_old {i = i} o) = behind i (put_again o)
put_again (inside_old {i = i} m w o) = inside i m (put_again w) (put_again o)
