-- `piece` meets its contract: of the parts that `split` gives the one at the index, or else nothing. Assumes nothing.
use Prim.Native.Nat.{ℕ}
use mathlib.Core.List.{List, []}
use mathlib.Core.Path.{◌≡◌, refl, ap, ◌∙◌}
use denote.Ref.{Bor}
use borrow.Author.Rules.{rules}
use borrow.Author.Tests.{tests}
use lib.ListN.{get_or}
use Rattle.std.specs.Prelude.{◌==◌, Option, Some, None, slice_get}
use Rattle.std.specs.Option.{option_map, unwrap_or}
use Rattle.std.specs.List.{slice_split}
use Rattle.std.proofs.lemmas.Iterator.Consumers.{nth_from_yields_List}
use Rattle.std.proofs.lemmas.Iterator.Splits.{YieldsList-from_slice_split}
use Rattle.std.proofs.lemmas.Option.{unwrap_or-slice_get}
use Rattle.pieces.proofs.Splitting.{parts}
use Rattle.pieces.proofs.piece.Goals as goal

-- the text behind a reference, or else none
text_of : (o : Option (Bor (List ℕ))) (d : Bor (List ℕ)) → d.now ≡ [] → (unwrap_or o d).now ≡ unwrap_or (option_map (λ x. x.now) o) []
text_of (Some x) d none = refl
text_of None d none = none

pub returns : goal.returns
returns c =
    let a = c.args in
    let at : option_map (λ x. x.now) c.nth.result ≡ slice_get (slice_split (λ x. x == a.b) a.s.now) a.index =
    nth_from_yields_List c.nth.result c.nth.new.self a.index c.nth.ensures.ran
    (YieldsList-from_slice_split _ (λ x. x == a.b) a.s.now c.split.ensures.rest c.split.ensures.done c.split.ensures.closure (λ x r q k. search (rules, tests)))
    in
    ap (λ (x : Bor (List ℕ)). x.now) c.unwrap_or.ensures
    ∙ text_of c.nth.result _ refl
    ∙ ap (λ (o : Option (List ℕ)). unwrap_or o []) at
    ∙ unwrap_or-slice_get (slice_split (λ x. x == a.b) a.s.now) a.index []
    ∙ ap (λ (l : List (List ℕ)). get_or l a.index []) (parts a.b a.s.now)
