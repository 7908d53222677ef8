-- REFUSAL 1 DOES OCCUR: into each payload with an item that the walk reaches, new items can be put that take it past the length limit. By lengths
-- alone. Assumes nothing.
use Prim.Native.Nat.{ℕ, zero, suc, ◌<◌}
use Prim.Native.Char.{code}
use mathlib.Core.Path.{◌≡◌, refl, sym}
use mathlib.Core.Bool.{Bool}
use mathlib.Core.List.{List, [], ◌∷◌, ◌++◌}
use native.Mathlib.Omega.{arith}
use lib.ListN.{length}
use Rattle.foundation.specs.Text.{key}
use Rattle.klv.specs.declared.KLV.{KLV}
use Rattle.klv.specs.Item.{laid_out}
use Rattle.reading.specs.Refusal.{too_long, most_bytes}
use Rattle.reading.specs.Walk.{refused, reading_of}
use Rattle.reading.proofs.Payload.{read_long}
use Rattle.newer_camera.specs.PutIn.{IsNew, Reached, PutIn, nothing, new}
use Rattle.newer_camera.proofs.Put.{long}

-- so many bytes
some_bytes : (n : ℕ) → (bytes : List ℕ) × (length bytes ≡ n)
some_bytes zero = ([], refl)
some_bytes (suc n) = let (bytes, e) = some_bytes n in (0 ∷ bytes, omega arith)

-- a new item of 255 × 1028 bytes, which are whole fours
abbrev large : KLV
large = record { key = key "LONG"; data_type = code "B"; size = 255; repeat = 1028 }

is_large : (payload : List ℕ) → length payload ≡ 262140 → IsNew large payload []
is_large payload e = record { whole = record { written = omega arith; is_long = sym e }; padded = omega arith; no_container = omega arith; not_type = omega arith }

-- four of them, in front of what is there
pub record PastLimit (s : List ℕ) : Type 0 where
  pub newer : List ℕ
  pub put : PutIn s newer
  pub is_long : most_bytes < length newer
  pub is_refused : (forced : Bool) (room : ℕ) → reading_of forced newer room ≡ refused too_long 0

pub past_limit : (s : List ℕ) → Reached s → PastLimit s
past_limit s front =
    let (payload, e) = some_bytes 262140 in
    let i = is_large payload e in
    let with_it : List ℕ → List ℕ = λ t. laid_out large payload [] ++ t in
    let one = long large payload [] s in
    let two = long large payload [] (with_it s) in
    let three = long large payload [] (with_it (with_it s)) in
    let four = long large payload [] (with_it (with_it (with_it s))) in
    let over : most_bytes < length (with_it (with_it (with_it (with_it s)))) = omega arith in
    record {
      newer = with_it (with_it (with_it (with_it s)));
      put = new i front (new i front (new i front (new i front nothing)));
      is_long = over;
      is_refused = λ forced room. read_long forced (with_it (with_it (with_it (with_it s)))) room over;
    }
