-- A date is that of the text's first 16 bytes. Assumes nothing.
use Prim.Native.Nat.{ℕ, ◌≤◌, ◌<◌}
use mathlib.Core.Path.{◌≡◌, ap}
use mathlib.Core.List.{List}
use native.Mathlib.Decide.{dec_lt}
use native.Mathlib.Omega.{arith}
use borrow.Author.Tests.{le-ltb}
use lib.Dec.{lit<, lit≤}
use lib.ListN.{length, take, length-take}
use lib.Seq.{take_all, take-take, get_or-take}
use Rattle.dates.specs.Fields.{day_of, time_of}
use Rattle.dates.specs.Date.{date_of}

module _ (text : List ℕ) where
  -- what ends within them
  within : (to : ℕ) → to ≤ 16 → take to (take 16 text) ≡ take to text
  within to h = take-take to 16 text h

  same_day : day_of (take 16 text) ≡ day_of text
  unfolding day_of
  same_day = simp (within 2 (lit≤ tt), within 4 (lit≤ tt), within 6 (lit≤ tt))

  same_time : time_of (take 16 text) ≡ time_of text
  unfolding time_of
  same_time =
      simp (within 8 (lit≤ tt), within 10 (lit≤ tt), within 12 (lit≤ tt), within 16 (lit≤ tt), get_or-take 16 text 12 0 (lit< tt))

  pub first_16 : date_of (take 16 text) ≡ date_of text
  unfolding date_of
  first_16 = go (dec_lt (length text) 16)
    where
      go : Dec (length text < 16) → date_of (take 16 text) ≡ date_of text
      go (yes few) = ap date_of (take_all 16 text (omega arith))
      go (no enough) =
          let all = le-ltb (length (take 16 text)) 16 (omega (arith, length-take 16 text)) in
          rw (all, le-ltb (length text) 16 (omega arith), same_day, same_time)
