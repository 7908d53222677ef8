-- `utf8_len` meets its contract, by the place of the first zero. Assumes nothing.
use Rattle.std.proofs.Common.{rules, ◌≡◌, ◌∙◌, ap, length, nat_eq}
use borrow.Author.Tests.{tests}
use Rattle.std.specs.List.{position}
use Rattle.std.specs.Option.{unwrap_or}
use Rattle.std.proofs.lemmas.Iterator.{YieldsList-from_slice}
use Rattle.std.proofs.lemmas.Iterator.Search.{position_from_yields_List}
use Rattle.texts.proofs.Kept.{first_zero}
use Rattle.texts.proofs.utf8_len.Goals as goal

pub returns : goal.returns
returns c =
    let s = c.args.text.now in
    let found : c.position.result ≡ position (λ b. nat_eq b 0) s =
    position_from_yields_List (λ b. nat_eq b 0) _ _ c.position.result c.position.ensures.ran (YieldsList-from_slice s cc) (λ x b q k. search (rules, tests)) in
    c.unwrap_or.ensures ∙ ap (λ r. unwrap_or r (length s)) found ∙ first_zero s
