-- How long a line is at most: a number below 10^k has at most k digits, a key is shown in at most nine bytes. Assumes nothing.
use Prim.Native.Nat.{ℕ, zero, suc, ◌*◌, ◌/◌, ◌^◌, ◌≤◌, ◌<◌}
use mathlib.Core.Path.{◌≡◌, refl}
use mathlib.Core.Bool.{Bool, true, false, cond}
use mathlib.Core.List.{◌++◌}
use native.Mathlib.Nat.{pow-suc}
use native.Mathlib.Omega.{arith}
use borrow.Author.Tests.{ltb-true, ltb-false}
use lib.Dec.{ltb}
use lib.ListN.{length, length-append}
use Rattle.foundation.specs.BigEndian.{bytes_of}
use Rattle.foundation.specs.Text.{characters}
use Rattle.klv.specs.declared.KLV.{KLV}
use Rattle.reading.specs.Record.{Group, callers, named}
use Rattle.rows.specs.declared.Row.{Row}
use Rattle.walk.specs.declared.Metadata.{Metadata}
use Rattle.foundation.specs.declared.refusal.Refusal.{Refusal}
use Rattle.foundation.specs.Refusals.{refuse}
use Rattle.std.specs.Prelude.{Result, Ok}
use Rattle.numerals.specs.Numerals.{last_digits, decimal}
use Rattle.numerals.proofs.Decimal.{length_one, length_more}
use Rattle.numerals.proofs.Spelling.{length-last_digits}
use Rattle.shown_key.specs.Key.{all_visible, shown_key}
use Rattle.listing_line.specs.Line.{shown_group, columns, answer_line, group_in, header_in, row_line}
use Rattle.listing_line.specs.Lines.{longest_line}

-- digits
pub decimal_short : (k n : ℕ) → n < 10 ^ suc k → length (decimal n) ≤ suc k
decimal_short zero n h = omega (arith, length_one n h)
decimal_short (suc k) n h = by (ltb n 10) refl (decimal_short k (n / 10) tenth)
  where
    tenth : n / 10 < 10 ^ suc k
    tenth = let p : n < 10 ^ suc k * 10 = rw (← pow-suc 10 (suc k)) h in omega arith

    by : (t : Bool) → ltb n 10 ≡ t → length (decimal (n / 10)) ≤ suc k → length (decimal n) ≤ suc (suc k)
    by true e rest = omega (arith, length_one n (ltb-true n 10 e))
    by false e rest = omega (arith, length_more n (ltb-false n 10 e))

-- a key
pub key_short : (k : ℕ) → length (shown_key k) ≤ 9
unfolding shown_key
key_short k = by (all_visible (bytes_of 4 k))
  where
    by : (t : Bool) → length (cond t (bytes_of 4 k) (characters "x" ++ last_digits 16 8 k)) ≤ 9
    by true = omega arith
    by false = omega (arith, length-last_digits 16 8 k)

group_short : (g : Group) → length (shown_group g) ≤ 9
group_short callers = omega arith
group_short (named k) = key_short k

-- a line of seven columns
module _ (place : ℕ) (g : Group) (h : KLV) (depth : ℕ) where
  pub columns_short : place < 4294967296 → h.data_type < 256 → h.size < 256 → h.repeat < 65536 → depth < 4294967296
      → length (columns place g h depth) ≤ longest_line
  unfolding columns
  columns_short p t s r d =
      simp length-append
      (omega (
        arith,
        decimal_short 9 place (omega arith),
        group_short g,
        key_short h.key,
        decimal_short 2 h.data_type (omega arith),
        decimal_short 2 h.size (omega arith),
        decimal_short 4 h.repeat (omega arith),
        decimal_short 9 depth (omega arith),
      ))

-- the line of a row of 32-bit numbers
pub row_short : (r : Row) → r.place < 4294967296 → r.shape < 4294967296 → r.depth < 4294967296 → length (row_line r) ≤ longest_line
unfolding row_line
row_short r p s d = columns_short r.place (group_in r) (header_in r) r.depth p (omega arith) (omega arith) (omega arith) d

-- the first line of an answer of 64-bit numbers
module _ (a : Result Metadata Refusal) where
  pub rows_short : (rows headers : ℕ) → a ≡ Ok (record { rows = rows; headers = headers }) → rows < 18446744073709551616 → headers < 18446744073709551616 → length (answer_line a) ≤ longest_line
  unfolding answer_line
  rows_short rows headers e r h = rw e (simp length-append (omega (arith, decimal_short 19 rows (omega arith), decimal_short 19 headers (omega arith))))

  pub refused_short : (number place : ℕ) → a ≡ refuse number place → number < 4294967296 → place < 18446744073709551616 → length (answer_line a) ≤ longest_line
  unfolding answer_line
  refused_short number place e n p = rw e (simp length-append (omega (arith, decimal_short 9 number (omega arith), decimal_short 19 place (omega arith))))
