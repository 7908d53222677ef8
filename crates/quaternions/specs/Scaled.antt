-- The scaled quaternion of a row of a group. Document 01, Values: "s under key CORI or IORI: four numbers w x y z per repeat .. Scaled in f64 by SCAL
-- if that is one `s` number, else by 32767." Assumes nothing: these are definitions.
use Rattle.std.specs.Prelude.{ℕ, cond, Option, Some, None, Result, Ok, Err, List, ℤ, pos, Float}
use Prim.Native.Char.{code}
use Rattle.std.specs.Float.{binary64}
use Rattle.std.specs.Float.Ieee.{of_int}
use Rattle.foundation.specs.Text.{key}
use Rattle.keys.specs.Tags.{data_tag, scale_tag}
use Rattle.value.specs.Value.{is_quaternions}
use Rattle.foundation.specs.declared.refusal.Refusal.{Refusal}
use Rattle.elements.specs.declared.Element.{Element}
use Rattle.tagged.specs.Tagged.{tagged_of, one_number}
use Rattle.tagged.specs.Number.{signed_number}
use Rattle.tagged.specs.Read.{read_at}
use Rattle.tagged.specs.declared.Tagged.{Tagged}
use Rattle.scaling.specs.Quaternion.{scaled_by}
use Rattle.scaling.specs.declared.Quaternion.{Quaternion}

-- the number that an element is
abbrev pub number_of : Result Element Refusal → Result ℤ Refusal
number_of (Ok e) = Ok (signed_number e)
number_of (Err r) = Err r

-- the number at a row and a column of the item at a place
unfoldable pub number_at : List ℕ → ℕ → ℕ → ℕ → Result ℤ Refusal
number_at s at row column = number_of (read_at s at row column)

-- ---- the scale

-- "else by 32767"
abbrev pub usual : Result Float Refusal
usual = Ok (of_int binary64 (pos 32767))

-- by the number that was read, or its refusal
abbrev pub scale_read : Result ℤ Refusal → Result Float Refusal
scale_read (Ok n) = Ok (of_int binary64 n)
scale_read (Err r) = Err r

-- "SCAL if that is one `s` number"
abbrev pub scale_by : List ℕ → Result (Option Tagged) Refusal → Result Float Refusal
scale_by s (Ok (Some t)) = cond (one_number t.klv (code "s")) (scale_read (number_at s t.place 0 0)) usual
scale_by s (Ok None) = usual
scale_by s (Err r) = Err r

-- the SCAL that lookup finds for the group
unfoldable pub scale_of : List ℕ → List ℕ → ℕ → ℕ → ℕ → Result Float Refusal
scale_of s rows count group_kind group_key = scale_by s (tagged_of s rows count group_kind group_key scale_tag (key "SCAL"))

-- ---- the quaternion

-- w x y z as they were read; what is refused of them is refused
abbrev pub of_four : Float → Result ℤ Refusal → Result ℤ Refusal → Result ℤ Refusal → Result ℤ Refusal → Result (Option Quaternion) Refusal
of_four by (Ok w) (Ok x) (Ok y) (Ok z) = Ok (Some (scaled_by by w x y z))
of_four by (Ok w) (Ok x) (Ok y) (Err r) = Err r
of_four by (Ok w) (Ok x) (Err r) z = Err r
of_four by (Ok w) (Err r) y z = Err r
of_four by (Err r) x y z = Err r

-- of the item at a place: w x y z are the columns of the row
unfoldable pub quaternion_at : List ℕ → ℕ → ℕ → Float → Result (Option Quaternion) Refusal
quaternion_at s at row by = of_four by (number_at s at row 0) (number_at s at row 1) (number_at s at row 2) (number_at s at row 3)

-- by a scale, or its refusal
abbrev pub quaternion_by : List ℕ → ℕ → ℕ → Result Float Refusal → Result (Option Quaternion) Refusal
quaternion_by s place row (Ok by) = quaternion_at s place row by
quaternion_by s place row (Err r) = Err r

-- the data of the group, if they are quaternions
abbrev pub quaternion_in : List ℕ → ℕ → Result Float Refusal → Result (Option Tagged) Refusal → Result (Option Quaternion) Refusal
quaternion_in s row by (Ok (Some t)) = cond (is_quaternions t.klv) (quaternion_by s t.place row by) (Ok None)
quaternion_in s row by (Ok None) = Ok None
quaternion_in s row by (Err r) = Err r

-- THE QUATERNION of a row of the data that lookup finds for the group
unfoldable pub quaternion_of : List ℕ → List ℕ → ℕ → ℕ → ℕ → ℕ → Result (Option Quaternion) Refusal
quaternion_of s rows count group_kind group_key row = quaternion_in s row (scale_of s rows count group_kind group_key) (tagged_of s rows count group_kind group_key data_tag 0)
