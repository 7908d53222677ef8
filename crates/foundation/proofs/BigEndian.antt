-- Numbers as bytes: one byte more, the bound of a width, and there and back again, once for every width. Assumes nothing.
use Prim.Native.Nat.{ℕ, zero, suc, ◌+◌, ◌*◌, ◌/◌, ◌%◌, ◌^◌, ◌<◌, ◌≤◌}
use mathlib.Core.Path.{◌≡◌, refl, sym, ap, ◌∙◌}
use mathlib.Core.List.{List, [], ◌∷◌, ◌++◌}
use native.Mathlib.Nat.{pow-suc, mul_comm, mul_assoc, div-add-mod', div-lt_iff_lt-mul, mod-lt, mul-add-div_right, mul-add-mod_self_right, pow-le-pow_right}
use native.Mathlib.Numerals.{add-one}
use native.Mathlib.Omega.{arith}
use lib.Arith.{digits_lt}
use lib.Dec.{lit<}
use lib.ListN.{length, length-append, length-take, take, get_or}
use lib.Seq.{take_all, take-suc}
use Rattle.foundation.specs.BigEndian.{big_endian, bytes_of, AreBytes}
use Rattle.foundation.proofs.Bytes.{append_bytes, cons_bytes, none_bytes, take_bytes}

-- a byte more at the end: the others weigh 256 times as much
pub one_more : (s : List ℕ) (b : ℕ) → big_endian (s ++ b ∷ []) ≡ big_endian s * 256 + b
one_more [] b = omega arith
one_more (a ∷ s) b =
    let n : length (s ++ b ∷ []) ≡ suc (length s) = length-append s (b ∷ []) ∙ add-one (length s) in
    let m : a * 256 ^ suc (length s) ≡ a * 256 ^ length s * 256 = rw pow-suc (sym (mul_assoc a (256 ^ length s) 256)) in
    rw (n, m, one_more s b) (omega arith)

-- so many bytes stand for a number below 256 to that power
pub bounded : (s : List ℕ) → AreBytes s → big_endian s < 256 ^ length s
bounded [] h = lit< tt
bounded (b ∷ s) h =
    let rest : big_endian s < 256 ^ length s = bounded s (λ i. h (suc i)) in
    let both : b * 256 ^ length s + big_endian s < 256 * 256 ^ length s = digits_lt (h 0) rest in
    rw (pow-suc, mul_comm (256 ^ length s) 256) both

pub length-bytes_of : (width n : ℕ) → length (bytes_of width n) ≡ width
length-bytes_of zero n = refl
length-bytes_of (suc width) n = length-append (bytes_of width (n / 256)) (n % 256 ∷ []) ∙ add-one (length (bytes_of width (n / 256))) ∙ ap suc (length-bytes_of width (n / 256))

pub bytes_of-bytes : (width n : ℕ) → AreBytes (bytes_of width n)
bytes_of-bytes zero n = none_bytes
bytes_of-bytes (suc width) n =
    append_bytes (bytes_of width (n / 256)) (n % 256 ∷ []) (bytes_of-bytes width (n / 256)) (cons_bytes (n % 256) [] (mod-lt n (lit< tt)) none_bytes)

-- THERE AND BACK: a number that the width holds, laid out as bytes, is read as itself
pub read_back : (width n : ℕ) → n < 256 ^ width → big_endian (bytes_of width n) ≡ n
read_back zero n h = omega arith
read_back (suc width) n h =
    let below : n < 256 ^ width * 256 = rw pow-suc at h in
    let less : n / 256 < 256 ^ width = (div-lt_iff_lt-mul (lit< tt)).1 below in
    one_more (bytes_of width (n / 256)) (n % 256) ∙ ap (λ (x : ℕ). x * 256 + n % 256) (read_back width (n / 256) less) ∙ div-add-mod' n 256

-- the byte in front is the quotient by what it weighs
in_front_lem : (width b r : ℕ) → b < 256 → r < 256 ^ width → bytes_of (suc width) (b * 256 ^ width + r) ≡ b ∷ bytes_of width r
in_front_lem zero b r h k =
    let none : r ≡ 0 = omega arith in
    let one : (b * 1 + r) % 256 ≡ b = rw none (omega arith) in
    ap (λ (x : ℕ). x ∷ []) one
in_front_lem (suc width) b r h k =
    let below : r < 256 ^ width * 256 = rw pow-suc at k in
    let less : r / 256 < 256 ^ width = (div-lt_iff_lt-mul (lit< tt)).1 below in
    let n : b * 256 ^ suc width + r ≡ b * 256 ^ width * 256 + r = rw (pow-suc, mul_assoc) in
    rw (n, mul-add-div_right {m = 256} (lit< tt) (b * 256 ^ width) r, mul-add-mod_self_right (b * 256 ^ width) 256 r)
    (ap (λ (l : List ℕ). l ++ r % 256 ∷ []) (in_front_lem width b (r / 256) h less))

-- BACK AND THERE: bytes, read as a number, are laid out as themselves
pub laid_back : (s : List ℕ) → AreBytes s → bytes_of (length s) (big_endian s) ≡ s
laid_back [] h = refl
laid_back (b ∷ s) h =
    let rest : AreBytes s = λ i. h (suc i) in
    in_front_lem (length s) b (big_endian s) (h 0) (bounded s rest) ∙ ap (λ (l : List ℕ). b ∷ l) (laid_back s rest)

-- the next byte of some bytes
pub next_byte : (s : List ℕ) (i : ℕ) → i < length s → big_endian (take (i + 1) s) ≡ big_endian (take i s) * 256 + get_or s i 0
next_byte s i h = rw (add-one, take-suc s i 0 h) (one_more (take i s) (get_or s i 0))

-- a number of i bytes with a byte more holds i + 1, and eight bytes are held by 64 bits
pub next_bound : (i x b : ℕ) → x < 256 ^ i → b < 256 → x * 256 + b < 256 ^ (i + 1)
next_bound i x b h k = rw (add-one, pow-suc) (digits_lt h k)

pub next_fits : (i x b : ℕ) → i < 8 → x < 256 ^ i → b < 256 → x * 256 + b < 2 ^ 64
next_fits i x b l h k =
    let up : i + 1 ≤ 8 = omega arith in
    let most : 256 ^ (i + 1) ≤ 256 ^ 8 = pow-le-pow_right {n = 256} (lit< tt) up in
    omega (arith, next_bound i x b h k)

-- a part of at most eight bytes is read whole
pub read_whole : (n : ℕ) (s : List ℕ) → n ≤ 8 → take 8 (take n s) ≡ take n s
read_whole n s h = take_all 8 (take n s) (simp length-take (omega arith))

-- and its number is held by as many bytes
pub part_bound : (n : ℕ) (s : List ℕ) → AreBytes s → big_endian (take n s) < 256 ^ n
part_bound n s h =
    let short : length (take n s) ≤ n = simp length-take (omega arith) in
    let most : 256 ^ length (take n s) ≤ 256 ^ n = pow-le-pow_right {n = 256} (lit< tt) short in
    omega (arith, bounded (take n s) (take_bytes n s h))
