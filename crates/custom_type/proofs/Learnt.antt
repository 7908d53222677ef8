-- What a caller learns of the array and the text from each answer. Assumes nothing.
use Prim.Native.Nat.{ℕ, ◌≤◌}
use mathlib.Core.Path.{◌≡◌, sym, ap, ◌∙◌}
use mathlib.Core.Bool.{Bool, true, false}
use mathlib.Core.List.{List, ◌++◌}
use native.Mathlib.Omega.{arith}
use borrow.Author.Tests.{leb-true}
use lib.ListN.{length, take, drop, length-append}
use lib.Seq.{take_at}
use Rattle.std.specs.Prelude.{Result, Ok, Err}
use Rattle.foundation.specs.declared.refusal.Fault.{Fault}
use Rattle.foundation.specs.declared.refusal.Fault.TheVariants.{LongType}
use Rattle.custom_type.specs.Expansion.{expanded}
use Rattle.custom_type.specs.Resolved.{fits, laid_if, Resolved}
use Rattle.custom_type.proofs.Answer.{told_characters, told_over}

-- so many characters: they stand in front
pub record Accepted (text b : List ℕ) (n : ℕ) : Type 0 where
  pub fitting : fits (expanded text) ≡ true
  pub most : n ≤ 256
  pub there : n ≤ length b
  pub characters : take n b ≡ expanded text

module _ {text a b : List ℕ} {r : Result ℕ Fault} (p : Resolved text a b r) where
  pub accepted : (n : ℕ) → r ≡ Ok n → Accepted text b n
  accepted n q =
      let e = expanded text in
      let t : (fits e ≡ true) × (length e ≡ n) = told_characters e n (sym p.is ∙ q) in
      let laid : b ≡ e ++ drop (length e) a = p.out ∙ ap (λ (f : Bool). laid_if f e a) t.0 in
      record {
        fitting = t.0;
        most = omega (arith, leb-true (length e) 256 t.0, t.1);
        there = rw laid (simp length-append (omega (arith, t.1)));
        characters = ap (take n) laid ∙ take_at e (drop (length e) a) n t.1;
      }

  pub refused : (f : Fault) → r ≡ Err f → fits (expanded text) ≡ false
  refused f q = (told_over (expanded text) f (sym p.is ∙ q)).0

  -- and by which fault
  pub refused_by : (f : Fault) → r ≡ Err f → f ≡ LongType
  refused_by f q = (told_over (expanded text) f (sym p.is ∙ q)).1
