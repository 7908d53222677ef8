-- `read_header` meets its contract: each field is the number of its bytes, which its type holds. Assumes nothing.
use Prim.Native.Nat.{ℕ, ◌<◌, ◌≤◌, ◌^◌}
use mathlib.Core.Path.{◌≡◌, ap, sym, ◌∙◌, subst}
use mathlib.Core.List.{List, [], ◌∷◌}
use native.Mathlib.Omega.{arith}
use lib.Dec.{lit≤}
use lib.ListN.{length, take, drop, get_or}
use Rattle.std.specs.Int.{w32, from_be_bytes}
use Rattle.foundation.specs.BigEndian.{big_endian, AreBytes}
use Rattle.foundation.proofs.BigEndian.{read_whole, part_bound}
use Rattle.foundation.proofs.Bytes.{drop_bytes}
use Rattle.klv.proofs.read_header.Goals as goal

-- the number of four bytes
first_four : (s : List ℕ) → 4 ≤ length s → from_be_bytes w32 (get_or s 0 0 ∷ get_or s 1 0 ∷ get_or s 2 0 ∷ get_or s 3 0 ∷ []) ≡ big_endian (take 4 s)
first_four [] h = absurd (omega arith)
first_four (a ∷ []) h = absurd (omega arith)
first_four (a ∷ b ∷ []) h = absurd (omega arith)
first_four (a ∷ b ∷ c ∷ []) h = absurd (omega arith)
first_four (a ∷ b ∷ c ∷ d ∷ s) h = omega arith

-- a number that was read off n bytes
read : (n x : ℕ) (s : List ℕ) → n ≤ 8 → x ≡ big_endian (take 8 (take n s)) → x ≡ big_endian (take n s)
read n x s h e = e ∙ ap big_endian (read_whole n s h)

small : (n x : ℕ) (s : List ℕ) → n ≤ 8 → AreBytes s → x ≡ big_endian (take 8 (take n s)) → x < 256 ^ n
small n x s h b e = subst (λ (y : ℕ). y < 256 ^ n) (sym (read n x s h e)) (part_bound n s b)

pub overflow_cast-result : goal.overflow_cast-result
overflow_cast-result c =
    let s = c.args.s.now in
    record { fits = small 2 c.big_endian.result (drop 6 s) (lit≤ tt) (drop_bytes 6 s (λ i. (c.shared_slice_known-1.given i).fits)) c.big_endian.ensures }

pub returns : goal.returns
returns c =
    let s = c.args.s.now in
    let key = c.from_be_bytes.ensures ∙ first_four s (omega (arith, c.requires)) in
    let repeat = read 2 c.big_endian.result (drop 6 s) (lit≤ tt) c.big_endian.ensures in
    λ i. record { key = key i; data_type = get_or s 4 0; size = get_or s 5 0; repeat = repeat i }
