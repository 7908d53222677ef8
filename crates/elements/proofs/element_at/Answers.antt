-- `element_at` meets its contract: the bytes are all there, or they are not. Assumes nothing.
use Prim.Native.Nat.{ℕ, ◌+◌, ◌-◌, ◌^◌, ◌<◌, ◌≤◌}
use mathlib.Core.Path.{◌≡◌, sym, ap, ◌∙◌, subst}
use mathlib.Core.List.{List}
use native.Mathlib.Omega.{arith}
use borrow.Author.Tests.{le-leb, lt-leb}
use lib.ListN.{length, take, drop}
use Rattle.foundation.specs.BigEndian.{big_endian, AreBytes}
use Rattle.foundation.proofs.BigEndian.{read_whole, part_bound}
use Rattle.foundation.proofs.Bytes.{drop_bytes}
use Rattle.elements.specs.declared.Element.{Element}
use Rattle.elements.specs.declared.Element.TheVariants.{Unsigned}
use Rattle.elements.specs.Types.{width_of}
use Rattle.elements.specs.Element.{element_of, element_at}
use Rattle.elements.proofs.element_at.Goals as goal

module _ (s : List ℕ) (at letter width : ℕ) (is-width : width ≡ width_of letter) where
  -- not all there
  missing : length s < at + width → Unsigned 0 ≡ element_at s at letter
  unfolding element_at
  missing h = let l : length s < at + width_of letter = omega arith in simp (lt-leb (at + width_of letter) (length s) l)

  -- the number that was read off the bytes from `at` on
  module _ (small : width ≤ 8) (n : ℕ) (is_read : n ≡ big_endian (take 8 (take (at + width - at) (drop at s)))) where
    is_number : n ≡ big_endian (take (width_of letter) (drop at s))
    is_number =
        let e : at + width - at ≡ width_of letter = omega arith in
        is_read ∙ ap (λ (k : ℕ). big_endian (take 8 (take k (drop at s)))) e ∙ ap big_endian (read_whole (width_of letter) (drop at s) (omega arith))

    bounded : AreBytes s → n < 256 ^ width_of letter
    bounded bytes = subst (λ (x : ℕ). x < 256 ^ width_of letter) (sym is_number) (part_bound (width_of letter) (drop at s) (drop_bytes at s bytes))

    present : at + width ≤ length s → (x : Element) → x ≡ element_of letter n → x ≡ element_at s at letter
    unfolding element_at
    present h x e =
        let l : at + width_of letter ≤ length s = omega arith in
        e ∙ ap (element_of letter) is_number ∙ sym (simp (le-leb (at + width_of letter) (length s) l))

pub returns-then-s-width : goal.returns-then-s-width
returns-then-s-width c =
    let a = c.args in
    missing a.s.now a.at a.letter c.width-width.result c.width-width.ensures.0 (omega arith)

pub element_of-requires : goal.element_of-requires
element_of-requires c =
    let a = c.args in
    bounded a.s.now a.at a.letter c.width-width.result c.width-width.ensures.0 c.width-width.ensures.1 c.big_endian.result c.big_endian.ensures (λ i. (c.type_inv.s i).fits)

pub returns : goal.returns
returns c =
    let a = c.args in
    present a.s.now a.at a.letter c.width-width.result c.width-width.ensures.0 c.width-width.ensures.1 c.big_endian.result c.big_endian.ensures (omega arith) c.element_of.result c.element_of.ensures
