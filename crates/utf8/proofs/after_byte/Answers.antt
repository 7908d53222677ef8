-- `after_byte` meets its contract: none is owed, or one and one fewer behind it. Assumes nothing.
use Prim.Native.Nat.{suc, ◌-◌}
use mathlib.Core.Path.{◌≡◌, sym, ap}
use native.Mathlib.Omega.{arith}
use Rattle.utf8.specs.Expected.{owed_behind}
use Rattle.utf8.proofs.after_byte.Goals as goal

pub returns-then-behind-eq0 : goal.returns-then-behind-eq0
returns-then-behind-eq0 c = ap owed_behind (sym c.if-behind-eq0.true)

pub returns-else-behind-eq0 : goal.returns-else-behind-eq0
returns-else-behind-eq0 c =
    let n = c.args.behind in
    let up : suc (n - 1) ≡ n = omega arith in
    ap owed_behind up
