-- `Cursor::parse_header` meets its contract: past the end there is nothing, else what stands first from the place on. Assumes nothing.
use mathlib.Core.Path.{sym, ap, ◌∙◌}
use Prim.Native.Nat.{◌-◌}
use lib.ListN.{length, drop, length-drop}
use lib.Seq.{take_all}
use native.Mathlib.Omega.{arith}
use Rattle.klv.specs.Header.{told, header_of_first}
use Rattle.klv.proofs.Item.{first_few}
use Rattle.klv.proofs.Cursor.parse_header.Goals as goal

pub returns-then-s-at : goal.returns-then-s-at
returns-then-s-at c =
    let a = c.args in
    ap told (sym (first_few (drop a.self.at a.s.now) (simp length-drop (omega arith))))

pub returns : goal.returns
returns c =
    let a = c.args in
    let rest = drop a.self.at a.s.now in
    c.first_header.ensures ∙ ap header_of_first (take_all (length a.s.now - a.self.at) rest (simp length-drop (omega arith)))
