-- `put_key` meets its contract: its bytes where all can be seen, else an x and its hex. Assumes nothing.
use mathlib.Core.Path.{◌≡◌, sym, ap, ◌∙◌}
use mathlib.Core.List.{◌++◌}
use borrow.Author.Rules.{rules}
use borrow.Author.Tests.{tests}
use Rattle.std.specs.Char.{is_ascii_graphic}
use Rattle.std.proofs.lemmas.Iterator.{YieldsList-from_slice}
use Rattle.std.proofs.lemmas.Iterator.Search.{all_from_yields_List}
use Rattle.foundation.specs.Text.{characters}
use Rattle.numerals.specs.Numerals.{last_digits}
use Rattle.shown_key.specs.Key.{all_visible}
use Rattle.shown_key.proofs.Visible.{four_bytes, all_seen, key_seen, key_hidden, hex_laid}
use Rattle.shown_key.proofs.put_key.Goals as goal
use Rattle.shown_key.proofs.put_key.Goals.{After-all}

-- what the test tells
seen : (c : After-all) → c.all.result ≡ all_visible c.to_be_bytes-bytes.result
seen c =
    all_from_yields_List is_ascii_graphic _ _ c.all.result c.all.ensures.ran (YieldsList-from_slice c.to_be_bytes-bytes.result c.iter.ensures.rest) (λ x b q k. search (rules, tests))
    ∙ all_seen c.to_be_bytes-bytes.result

pub returns-then-all : goal.returns-then-all
returns-then-all c =
    let are = c.to_be_bytes-bytes.ensures ∙ four_bytes c.args.key in
    rw (key_seen c.args.key c.to_be_bytes-bytes.result c.all.result are (seen (goal.at.returns-then-all c).After-all) c.if-all.true) c.put_bytes.ensures

pub returns : goal.returns
returns c =
    let a = c.args in
    let are = c.to_be_bytes-bytes.ensures ∙ four_bytes a.key in
    let shown = key_hidden a.key c.to_be_bytes-bytes.result c.all.result are (seen (goal.at.returns c).After-all) c.if-all.false in
    let hex = c.put_hex.ensures.leaves ∙ hex_laid c.from.result ∙ ap (λ n. characters "x" ++ last_digits 16 8 n) c.from.ensures in
    rw (shown ∙ sym hex) c.put_bytes-2.ensures
