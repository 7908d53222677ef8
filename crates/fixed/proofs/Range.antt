-- A range of whole numbers as one bound, and back. Assumes nothing.
use Prim.Native.Nat.{ℕ, suc, ◌<◌}
use native.Mathlib.Nat.{lt_of_le_of_lt}
use native.Mathlib.Omega.{arith}
use lib.Dec.{leb→le, le→leb}
use lib.IntN.{ℤ, pos, negsuc}
use lib.Signed.{mag, le_z_yes}
use Rattle.fixed.specs.Laws.{FromTo}

-- `negsuc a` is -a - 1, and `mag z < k` says that z is from -k to k - 1
pub bounded : {a b : ℕ} (k : ℕ) (z : ℤ) → a < k → b < k → FromTo (negsuc a) (pos b) z → mag z < k
bounded {a} {b} k (pos n) h l r = lt_of_le_of_lt (leb→le n b r.most.le) l
bounded {a} {b} k (negsuc n) h l r = lt_of_le_of_lt (leb→le n a r.least.le) h

pub ranged : (k : ℕ) (z : ℤ) → mag z < suc k → FromTo (negsuc k) (pos k) z
ranged k (pos n) h = record { least = le_z_yes tt; most = le_z_yes (le→leb n k (omega arith)) }
ranged k (negsuc n) h = record { least = le_z_yes (le→leb n k (omega arith)); most = le_z_yes tt }
