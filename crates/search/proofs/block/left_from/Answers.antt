use Prim.Native.Nat.{◌≤◌, ◌<◌, ◌+◌, ◌-◌, max}
use mathlib.Core.Path.{◌≡◌, refl, ◌∙◌, sym, ap, subst}
use mathlib.Core.Bool.{cond}
use native.Mathlib.Omega.{arith}
use lib.ListN.{drop}
use Rattle.search.specs.Search.{devc, begins, find_from, or_else, with_left}
use Rattle.search.proofs.Find.{counts, counted}
use Rattle.search.proofs.block.left_from.Goals as goal

pub loop-left-preserved : goal.loop-left-preserved
loop-left-preserved c =
    let a = c.args in
    let here = begins devc (drop c.loop-left.k a.s.now) in
    let on = counted a.s.now a.from c.loop-left.k (a.from + a.places) c.loop-left.most c.loop-left.left here c.loop-left.invariant.0 (omega arith) c.loop-left.invariant.3 c.loop-left.invariant.4 refl in
    let is : c.max-most.result ≡ max c.loop-left.most (cond here c.loop-left.left 0) = c.max-most.ensures ∙ ap (max c.loop-left.most) c.left_at.ensures in
    let room = counts a.places c.loop-left.most c.loop-left.left here c.loop-left.invariant.1 c.loop-left.invariant.2 (omega arith) c.loop-left.invariant.3 in (
      omega arith,
      subst (λ n. n ≤ a.places) (sym is) room.0,
      omega arith,
      subst (λ n. 0 < n → c.loop-left.left - 1 < n) (sym is) room.1,
      on ∙ ap (λ n. or_else (with_left (a.from + a.places) n) (find_from a.s.now (c.loop-left.k + 1))) (sym is),
    )

pub returns : goal.returns
returns c =
    let a = c.args in
    let arrived : c.loop-left.k ≡ a.from + a.places = omega arith in
    (omega arith, c.loop-left.invariant.4 ∙ ap (λ k. or_else (with_left (a.from + a.places) c.loop-left.most) (find_from a.s.now k)) arrived)
