use Prim.Native.Nat.{◌≤◌}
use mathlib.Core.Path.{sym, ap, ◌∙◌}
use Rattle.std.specs.Prelude.{Ok, Err}
use mathlib.Core.Bool.{true, false}
use native.Mathlib.Omega.{arith}
use lib.ListN.{length}
use Rattle.reading.specs.Walk.{room_of}
use Rattle.rows.proofs.Search.{among_step, among_none, fits, too_many}
use Rattle.rows.proofs.lookup.Goals as goal

pub returns-then-room-count : goal.returns-then-room-count
returns-then-room-count c =
    let a = c.args in
    ap Err c.at.ensures ∙ sym (too_many a.group_kind a.group_key a.tag a.key a.rows.now a.count (omega arith))

pub loop-n-init : goal.loop-n-init
loop-n-init c =
    let a = c.args in
    let h : a.count ≤ room_of (length a.rows.now) = omega arith in
    fits a.group_kind a.group_key a.tag a.key a.rows.now a.count h

pub returns-then-matches : goal.returns-then-matches
returns-then-matches c =
    let a = c.args in
    sym (c.loop-n.invariant ∙ ap Ok (among_step a.group_kind a.group_key a.tag a.key c.loop-n.n a.rows.now c.take_row.result c.matches.result true (omega arith) c.take_row.ensures c.matches.ensures c.if-matches.true))

pub loop-n-preserved : goal.loop-n-preserved
loop-n-preserved c =
    let a = c.args in
    let test = c.matches in
    c.loop-n.invariant ∙ ap Ok (among_step a.group_kind a.group_key a.tag a.key c.loop-n.n a.rows.now c.take_row.result test.result false (omega arith) c.take_row.ensures test.ensures c.if-matches.false)

pub returns : goal.returns
returns c =
    let a = c.args in
    sym (c.loop-n.invariant ∙ ap Ok (among_none a.group_kind a.group_key a.tag a.key c.loop-n.n a.rows.now (omega arith)))
