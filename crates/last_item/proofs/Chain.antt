-- The chain on its way: what it has met before a place, and what each answer of `parse_header` there makes of that. Assumes nothing.
use Prim.Native.Nat.{ℕ, ◌+◌, ◌<◌, ◌≤◌}
use mathlib.Core.Path.{◌≡◌, refl, sym, ap, ◌∙◌}
use mathlib.Core.List.{List}
use native.Mathlib.Omega.{arith}
use lib.ListN.{length, drop}
use lib.Seq.{take-length}
use Rattle.klv.specs.declared.KLV.{KLV}
use Rattle.klv.specs.declared.Broken.TheVariants.{Short, Past}
use Rattle.klv.specs.Header.{header_at}
use Rattle.klv.specs.Item.{data_len, aligned}
use Rattle.klv.specs.Level.{items_of}
use Rattle.reading.specs.Refusal.{past_end, left_over}
use Rattle.reading.specs.Last.{Last, none, last, stopped, or_else, last_item}
use Rattle.reading.specs.Place.{last_at}
use Rattle.reading.proofs.Place.{whole_header}
use Rattle.reading.proofs.Loop.{chain_start, chain_end, chain_short, chain_past, chain_turn}
use Rattle.std.specs.Prelude.{Option, Some, None, Ok, Err}
use Rattle.last_item.specs.declared.Last as answer
use Rattle.last_item.specs.LastItem.{told}

module _ (s : List ℕ) (from : ℕ) where
  -- what is asked: the last item from a place on
  abbrev asked : Last
  asked = last_item (items_of (drop from s)) from

  -- the chain has come to a place, and the last item that it met is told by m
  pub record SoFar (at : ℕ) (m : Option answer.Last) : Type 0 where
    pub met : Last
    pub is : Ok m ≡ told met
    pub chain : asked ≡ or_else met (last_at s at (length s))

  pub start : SoFar from None
  unfolding last_at
  start =
      let whole : asked ≡ last_at s from (length s) = ap (λ (b : List ℕ). last_item (items_of (drop from b)) from) (sym (take-length s)) in
      record { met = none; is = refl; chain = whole ∙ chain_start s (length s) from }

  module _ (at : ℕ) (m : Option answer.Last) (c : SoFar at m) where
    pub end : length s ≤ at → Ok m ≡ told asked
    end l = c.is ∙ ap told (sym (c.chain ∙ chain_end s (length s) at c.met l))

    pub short : at < length s → header_at s at ≡ Err Short → told (stopped left_over at) ≡ told asked
    short l e = ap told (sym (c.chain ∙ chain_short s (length s) at c.met l (omega arith) (whole_header s at ∙ e)))

    pub past : header_at s at ≡ Err Past → told (stopped past_end at) ≡ told asked
    past e = ap told (sym (c.chain ∙ chain_past s (length s) at c.met (whole_header s at ∙ e)))

    pub turn : (h : KLV) (n : ℕ) → header_at s at ≡ Ok h → n ≡ aligned (data_len h) → SoFar (at + 8 + n) (Some (record { place = at; klv = h }))
    turn h n e q = rw q (record { met = last at h; is = refl; chain = c.chain ∙ chain_turn s (length s) at c.met h (whole_header s at ∙ e) })
