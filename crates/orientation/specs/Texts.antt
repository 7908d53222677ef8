-- What ORIN and ORIO give, where each is one text: the axes of their matrix (document 01, Values; Axes and durations; Refusal numbers, 9 and 10).
-- Assumes nothing: these are definitions.
use Rattle.std.specs.Prelude.{ℕ, ◌+◌, ◌-◌, ◌≤◌, ◌≡◌, cond, ◌&&◌, List, Option, None, Result, Ok, Err, length, take, drop}
use Rattle.foundation.specs.declared.refusal.Refusal.{Refusal}
use Rattle.axes.specs.declared.Axes.{Axes}
use Rattle.axes.specs.declared.Orientations.{Orientations}
use Rattle.axes.specs.Matrix.{matrix_of, orientations_of}
use Rattle.axes.specs.Back.{orientation_of}
use Rattle.klv.specs.declared.KLV.{KLV}
use Rattle.klv.specs.Item.{header_length, payload_at}
use Rattle.klv.specs.OneText.{one_text}
use Rattle.texts.specs.Kept.{kept}
use Rattle.orientation.specs.Matrix.{told}

-- the text of the item at a place: trailing zeros dropped
abbrev pub text_at : List ℕ → ℕ → KLV → List ℕ
text_at s at h = kept (payload_at s at h)

-- the matrix of ORIN and ORIO, read back
abbrev pub by_orientations : Result Orientations Refusal → Result (Option Axes) Refusal
by_orientations (Ok named) = told (orientation_of (matrix_of named.orin named.orio))
by_orientations (Err r) = Err r

-- THE AXES of ORIN and ORIO, items at two places
abbrev pub by_texts : List ℕ → ℕ → KLV → ℕ → KLV → Result (Option Axes) Refusal
by_texts s i orin o orio = cond (one_text orin && one_text orio) (by_orientations (orientations_of (text_at s i orin) (text_at s o orio))) (Ok None)

-- ---- what the crate's own functions say of a text besides: it stands behind the header, and ends within the payload
pub record TextEnd (s : List ℕ) (at : ℕ) (h : KLV) (end : ℕ) : Type 0 where
  pub is : take (end - (at + header_length)) (drop (at + header_length) s) ≡ text_at s at h
  pub begins : at + header_length ≤ end
  pub within : end ≤ length s
