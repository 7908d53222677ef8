-- The answers to a text of hex: none where it is not one or has no room, all of its bytes where it has. Assumes nothing.
use Prim.Native.Nat.{ℕ, ◌+◌, ◌*◌, ◌%◌, ◌≤◌, ◌<◌}
use mathlib.Core.Path.{◌≡◌}
use mathlib.Core.Bool.{true, false}
use mathlib.Core.List.{List}
use native.Mathlib.Omega.{arith}
use borrow.Author.Tests.{eq-eqb, ne_eqb, le-leb, lt-leb}
use lib.Dec.{eqb, leb}
use lib.ListN.{length}
use Rattle.text.specs.Lay.{over}
use Rattle.foundation.specs.Digits.{are_digits}
use Rattle.line.specs.Read.{bytes_in, decoded, decoded_into, Decodes}
use Rattle.std.specs.Prelude.{Ok, Err}
use Rattle.line.specs.declared.HexError.TheVariants.{NoRoom, NotHex}
use Rattle.text.proofs.Laying.{lays_whole, lays_nothing}
use Rattle.line.proofs.Reading.{length-bytes_in}

module _ (s out : List ℕ) where
  pub not_pairs : length s % 2 ≡ 1 → Decodes s out (Err NotHex) out
  unfolding decoded decoded_into
  not_pairs h = let odd = ne_eqb (length s % 2) 0 (λ e. omega (arith, e, h)) in record { is = rw odd; leaves = rw odd }

  module _ (count : ℕ) (pairs : length s ≡ 2 * count) where
    even : eqb (length s % 2) 0 ≡ true
    even = eq-eqb (length s % 2) 0 (omega arith)

    pub not_digits : are_digits 16 s ≡ false → Decodes s out (Err NotHex) out
    unfolding decoded decoded_into
    not_digits d = record { is = rw (even, d); leaves = rw (even, d) }

    long : length (bytes_in s) ≡ count
    long = length-bytes_in count s pairs

    pub no_room : are_digits 16 s ≡ true → length out < count → Decodes s out (Err NoRoom) out
    unfolding decoded decoded_into
    no_room d h =
        let short : leb (0 + count) (length out) ≡ false = lt-leb (0 + count) (length out) (omega arith) in
        record {
          is = rw (even, d, long, short);
          leaves = rw (even, d) (lays_nothing out 0 (bytes_in s) long short).leaves;
        }

    pub decodes : are_digits 16 s ≡ true → count ≤ length out → Decodes s out (Ok count) (over out 0 (bytes_in s))
    unfolding decoded decoded_into
    decodes d h =
        let room : leb (0 + count) (length out) ≡ true = le-leb (0 + count) (length out) (omega arith) in
        record {
          is = rw (even, d, long, room);
          leaves = rw (even, d) (lays_whole out 0 (bytes_in s) long room).leaves;
        }
