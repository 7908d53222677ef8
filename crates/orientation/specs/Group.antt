-- The axes of a group's readings, found by lookup: its MTRX, and only where it has none its ORIN and ORIO, as the Rust's `process_map` takes them
-- (document 01, Axes and durations; Refusal numbers, 1, 2, 5 and 12 of the items). Assumes nothing: these are definitions.
use Rattle.std.specs.Prelude.{ℕ, List, Option, Some, None, Result, Ok, Err}
use Rattle.foundation.specs.Text.{key}
use Rattle.foundation.specs.declared.refusal.Refusal.{Refusal}
use Rattle.axes.specs.declared.Axes.{Axes}
use Rattle.keys.specs.Tags.{matrix_tag, orientation_in_tag, orientation_out_tag}
use Rattle.tagged.specs.Tagged.{tagged_of}
use Rattle.tagged.specs.declared.Tagged.{Tagged}
use Rattle.orientation.specs.Matrix.{first_row, by_matrix}
use Rattle.orientation.specs.Texts.{by_texts}

-- both ORIN and ORIO
abbrev pub by_pair : List ℕ → Result (Option Tagged) Refusal → Result (Option Tagged) Refusal → Result (Option Axes) Refusal
by_pair s (Ok (Some i)) (Ok (Some o)) = by_texts s i.place i.klv o.place o.klv
by_pair s (Ok (Some i)) (Ok None) = Ok None
by_pair s (Ok (Some i)) (Err r) = Err r
by_pair s (Ok None) orio = Ok None
by_pair s (Err r) orio = Err r

-- MTRX before them
abbrev pub by_group : List ℕ → Result (Option Tagged) Refusal → Result (Option Axes) Refusal → Result (Option Axes) Refusal
by_group s (Ok (Some mtrx)) else = by_matrix mtrx.klv (first_row s mtrx.place)
by_group s (Ok None) else = else
by_group s (Err r) else = Err r

-- THE ORIENTATION of a group, given a payload and its rows
unfoldable pub orientation_of_group : List ℕ → List ℕ → ℕ → ℕ → ℕ → Result (Option Axes) Refusal
orientation_of_group s rows count group_kind group_key = by_group s (of matrix_tag (key "MTRX")) (by_pair s (of orientation_in_tag (key "ORIN")) (of orientation_out_tag (key "ORIO")))
  where
    of : ℕ → ℕ → Result (Option Tagged) Refusal
    of tag k = tagged_of s rows count group_kind group_key tag k
