-- The texts of ORIN and ORIO as parts of the payload, and the axes that they give. Assumes nothing.
use Prim.Native.Nat.{ℕ, ◌+◌, ◌-◌, ◌≤◌}
use mathlib.Core.Path.{◌≡◌, ap, sym, ◌∙◌}
use mathlib.Core.Bool.{Bool, true, false, cond, ◌&&◌}
use mathlib.Core.List.{List}
use native.Mathlib.Omega.{arith}
use lib.ListN.{length, take, drop, length-take}
use lib.Seq.{take-take}
use Rattle.std.specs.Prelude.{Option, None, Result, Ok}
use Rattle.foundation.specs.declared.refusal.Refusal.{Refusal}
use Rattle.axes.specs.declared.Axes.{Axes}
use Rattle.axes.specs.declared.Orientations.{Orientations}
use Rattle.axes.specs.Matrix.{orientations_of}
use Rattle.klv.specs.declared.KLV.{KLV}
use Rattle.klv.specs.Item.{data_len, payload_at}
use Rattle.klv.specs.Header.{header_at}
use Rattle.klv.specs.OneText.{one_text}
use Rattle.klv.proofs.Place.{at_item}
use Rattle.texts.specs.Kept.{kept}
use Rattle.texts.proofs.Kept.{kept_front, kept_length}
use Rattle.orientation.specs.Texts.{text_at, by_orientations, by_texts, TextEnd}

module _ (s : List ℕ) (at : ℕ) (h : KLV) (is_item : header_at s at ≡ Ok h) where
  pub fits : at + 8 + data_len h ≤ length s
  fits = (at_item s at h is_item).fits

  abbrev rest : List ℕ
  rest = drop (at + 8) s

  -- where so many bytes of the payload are kept
  module _ (len n : ℕ) (long : len ≡ data_len h) (are : n ≡ length (kept (take (at + 8 + len - (at + 8)) rest))) where
    kept_count : n ≡ length (text_at s at h)
    kept_count =
        let size : at + 8 + len - (at + 8) ≡ data_len h = omega arith in
        are ∙ ap (λ (k : ℕ). length (kept (take k rest))) size

    pub kept_most : n ≤ data_len h
    kept_most = omega (arith, kept_count, kept_length (payload_at s at h), length-take (data_len h) rest)

    -- THE TEXT ends there
    pub text_ends : TextEnd s at h (at + 8 + n)
    text_ends =
        let cut : at + 8 + n - (at + 8) ≡ length (text_at s at h) = omega (arith, kept_count) in
        let most : length (text_at s at h) ≤ data_len h = omega (arith, kept_count, kept_most) in
        record {
          is = ap (λ (k : ℕ). take k rest) cut ∙ sym (take-take (length (text_at s at h)) (data_len h) rest most) ∙ kept_front (payload_at s at h);
          begins = omega arith;
          within = omega (arith, kept_most, fits);
        }

-- ---- both texts

module _ (s : List ℕ) (i : ℕ) (orin : KLV) (o : ℕ) (orio : KLV) where
  abbrev read : Result (Option Axes) Refusal
  read = by_orientations (orientations_of (text_at s i orin) (text_at s o orio))

  module _ {one : Bool} (tells : one ≡ one_text orin) where
    -- ORIN is no text
    pub no_orin : one ≡ false → by_texts s i orin o orio ≡ Ok None
    no_orin e = ap (λ (b : Bool). cond (b && one_text orio) read (Ok None)) (sym tells ∙ e)

    module _ (is_one_lem : one ≡ true) {other : Bool} (says : other ≡ one_text orio) where
      by_tests : (b : Bool) → other ≡ b → by_texts s i orin o orio ≡ cond b read (Ok None)
      by_tests b e = ap (λ (a : Bool). cond (a && one_text orio) read (Ok None)) (sym tells ∙ is_one_lem) ∙ ap (λ (a : Bool). cond a read (Ok None)) (sym says ∙ e)

      -- ORIO is none
      pub no_orio : other ≡ false → by_texts s i orin o orio ≡ Ok None
      no_orio e = by_tests false e

      -- BOTH are read
      pub both_texts : other ≡ true → (iEnd oEnd : ℕ) → TextEnd s i orin iEnd → TextEnd s o orio oEnd → (os : Result Orientations Refusal) (r : Result (Option Axes) Refusal)
          → os ≡ orientations_of (take (iEnd - (i + 8)) (drop (i + 8) s)) (take (oEnd - (o + 8)) (drop (o + 8) s))
          → r ≡ by_orientations os
          → r ≡ by_texts s i orin o orio
      both_texts e iEnd oEnd ti to os r are er =
          er ∙ ap by_orientations (are ∙ (λ k. orientations_of (ti.is k) (to.is k))) ∙ sym (by_tests true e)
