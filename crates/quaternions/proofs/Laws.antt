-- How many bits hold the numbers of an item of the letter s, and a quaternion by each of them. Assumes nothing.
use Prim.Native.Nat.{ℕ}
use lib.IntN.{pos}
use lib.Ieee.{binary64, of_bits, of_int}
use mathlib.Core.Path.{◌≡◌, refl, sym, subst, ◌∙◌}
use mathlib.Core.List.{List}
use Rattle.std.specs.Prelude.{Result, Ok}
use Rattle.foundation.specs.BigEndian.{AreBytes}
use Rattle.foundation.specs.declared.refusal.Refusal.{Refusal}
use Rattle.elements.specs.declared.Element.{Element}
use Rattle.tagged.specs.Number.{Sixteen, Held}
use Rattle.tagged.specs.declared.Tagged.{Tagged}
use Rattle.tagged.specs.Read.{read_at}
use Rattle.tagged.proofs.Numbers.{s_held}
use Rattle.quaternions.specs.Ready.{HalvesStand}

-- an element of such an item that was read
pub has_16 : (s : List ℕ) (t : Tagged) (row column : ℕ) {d : Result Element Refusal} {e : Element}
    → HalvesStand s t → AreBytes s → d ≡ read_at s t.place row column → d ≡ Ok e → Sixteen e
has_16 s t row column h bytes is there = subst (Held Sixteen) (sym is ∙ there) (s_held s bytes t.place t.klv h.stands row column h.letter)

-- the usual scale, 32767, by its bits
pub usual_bits : of_bits binary64 4674736138332667904 ≡ of_int binary64 (pos 32767)
unfolding of_bits of_int
usual_bits = refl
