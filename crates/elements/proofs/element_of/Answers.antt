-- `element_of` meets its contract: each arm at its letter. Assumes nothing.
use Prim.Native.Nat.{ℕ, ◌^◌, ◌<◌}
use mathlib.Core.Path.{◌≡◌, refl, sym, ap, ◌∙◌, subst}
use mathlib.Core.List.{[], ◌∷◌}
use borrow.Author.Rules.{rules}
use borrow.Author.Tests.{ne_eqb}
use lib.Dec.{lit≤}
use lib.IntN.{ℤ}
use mir.Syntax.{w64}
use mir.Val.{SFits, of_z, to_z}
use mir.ValLaws.{to_z-of_z}
use Rattle.elements.specs.declared.Element.{Element}
use Rattle.elements.specs.declared.Element.TheVariants.{Signed, Unsigned, Single, Double}
use Rattle.elements.specs.Types.{width_of}
use Rattle.elements.specs.Element.{signed_of, element_of}
use Rattle.elements.proofs.Keys.{by_keys, no_key}
use Rattle.elements.proofs.element_of.Goals as goal

-- what holds at an arm's letter holds of the letter that was asked
below : (k letter n : ℕ) → letter ≡ k → n < 256 ^ width_of letter → n < 256 ^ width_of k
below k letter n e h = subst (λ (x : ℕ). n < 256 ^ width_of x) e h

at : (k letter n : ℕ) (x : Element) → letter ≡ k → x ≡ element_of k n → x ≡ element_of letter n
at k letter n x e h = h ∙ ap (λ (y : ℕ). element_of y n) (sym e)

-- what `signed` answered, through the store to an i64
signed_at : (k letter n half : ℕ) (z : ℤ) → SFits w64 z → letter ≡ k → z ≡ signed_of half n → Signed (signed_of half n) ≡ element_of k n
    → Signed (to_z w64 (of_z w64 z)) ≡ element_of letter n
signed_at k letter n half z f e h is = ap Signed (to_z-of_z w64 z f ∙ h) ∙ at k letter n (Signed (signed_of half n)) e is

pub signed-requires : goal.signed-requires
unfolding width_of
signed-requires c = (lit≤ tt, below 98 c.args.letter c.args.n c.in-98.is c.requires)

pub signed-requires-in-115 : goal.signed-requires-in-115
unfolding width_of
signed-requires-in-115 c = (lit≤ tt, below 115 c.args.letter c.args.n c.in-115.is c.requires)

pub signed-requires-in-108 : goal.signed-requires-in-108
unfolding width_of
signed-requires-in-108 c = (lit≤ tt, below 108 c.args.letter c.args.n c.in-108.is c.requires)

pub overflow_cast-n : goal.overflow_cast-n
unfolding width_of
overflow_cast-n c = record { fits = below 102 c.args.letter c.args.n c.in-102.is c.requires }

pub fixed_single-requires : goal.fixed_single-requires
unfolding width_of
fixed_single-requires c = below 113 c.args.letter c.args.n c.in-113.is c.requires

pub returns-in-98 : goal.returns-in-98
unfolding element_of width_of
returns-in-98 c = signed_at 98 c.args.letter c.args.n 0x80 c.signed.result (search rules) c.in-98.is c.signed.ensures refl

pub returns-in-115 : goal.returns-in-115
unfolding element_of width_of
returns-in-115 c = signed_at 115 c.args.letter c.args.n 0x8000 c.signed-in-115.result (search rules) c.in-115.is c.signed-in-115.ensures refl

pub returns-in-108 : goal.returns-in-108
unfolding element_of width_of
returns-in-108 c = signed_at 108 c.args.letter c.args.n 0x8000_0000 c.signed-in-108.result (search rules) c.in-108.is c.signed-in-108.ensures refl

pub returns-in-106 : goal.returns-in-106
unfolding element_of width_of
returns-in-106 c = signed_at 106 c.args.letter c.args.n 0x8000_0000_0000_0000 c.signed-in-106.result (search rules) c.in-106.is c.signed-in-106.ensures refl

pub returns-in-66 : goal.returns-in-66
unfolding element_of
returns-in-66 c = by_keys (λ (k : ℕ). Unsigned c.args.n ≡ element_of k c.args.n) (66 ∷ 74 ∷ 76 ∷ 83 ∷ []) c.args.letter c.in-66.is (refl, (refl, (refl, (refl, tt))))

pub returns-in-102 : goal.returns-in-102
unfolding element_of
returns-in-102 c = at 102 c.args.letter c.args.n (Single c.single.result) c.in-102.is (ap Single c.single.ensures)

pub returns-in-100 : goal.returns-in-100
unfolding element_of
returns-in-100 c = at 100 c.args.letter c.args.n (Double c.double.result) c.in-100.is (ap Double c.double.ensures)

pub returns-in-113 : goal.returns-in-113
unfolding element_of
returns-in-113 c = at 113 c.args.letter c.args.n (Single c.fixed_single.result) c.in-113.is (ap Single c.fixed_single.ensures)

pub returns-in-81 : goal.returns-in-81
unfolding element_of
returns-in-81 c = at 81 c.args.letter c.args.n (Double c.fixed_double.result) c.in-81.is (ap Double c.fixed_double.ensures)

pub returns-in_default : goal.returns-in_default
unfolding element_of
returns-in_default c =
    let r = c.in_default.in_default-own.rest in
    let u = no_key (66 ∷ 74 ∷ 76 ∷ 83 ∷ []) _ r.0.0.0.0.1 in
    simp (
      ne_eqb _ 98 r.0.0.0.0.0.0.0.0.1,
      ne_eqb _ 115 r.0.0.0.0.0.0.0.1,
      ne_eqb _ 108 r.0.0.0.0.0.0.1,
      ne_eqb _ 106 r.0.0.0.0.0.1,
      u.0,
      u.1.0,
      u.1.1.0,
      u.1.1.1.0,
      ne_eqb _ 102 r.0.0.0.1,
      ne_eqb _ 100 r.0.0.1,
      ne_eqb _ 113 r.0.1,
      ne_eqb _ 81 r.1,
    )
