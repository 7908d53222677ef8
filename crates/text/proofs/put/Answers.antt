-- `put` meets its contract: one byte stored is one byte laid. Assumes nothing.
use Prim.Native.Nat.{◌+◌, ◌<◌}
use mathlib.Core.Path.{refl}
use mathlib.Core.List.{[], ◌∷◌}
use native.Mathlib.Omega.{arith}
use borrow.Author.Tests.{le-leb, lt-leb}
use lib.ListN.{length}
use Rattle.text.proofs.Laying.{lays_whole, lays_nothing, over_one}
use Rattle.text.proofs.put.Goals as goal

pub returns-then-out-at : goal.returns-then-out-at
returns-then-out-at c =
    let a = c.args in
    lays_nothing a.out.now a.at (a.b ∷ []) refl (lt-leb (a.at + 1) (length a.out.now) (omega arith))

pub returns : goal.returns
returns c =
    let a = c.args in
    let h : a.at < length a.out.now = omega arith in
    rw (over_one a.out.now a.at a.b h) (lays_whole a.out.now a.at (a.b ∷ []) refl (le-leb (a.at + 1) (length a.out.now) (omega arith)))
