-- What axes and a quaternion are told as to a caller in another language: a record of numbers, of which those that the answer does not have
-- are 0 (document 01, Refusal numbers: "A refusal returns its number, a place and zeros"). Assumes nothing: these are definitions.
use Rattle.std.specs.Prelude.{ℕ, Option, Some, None, Result, Ok, Err}
use Rattle.foundation.specs.declared.refusal.Refusal.{Refusal}
use Rattle.axes.specs.declared.Axes.{Axes}
use Rattle.axes.specs.declared.Orientations.{Orientations}
use Rattle.scaling.specs.declared.Quaternion.{Quaternion}
use Rattle.answer_kinds.specs.Kinds.{refused, is, nothing, nought}
use Rattle.orientation_answers.specs.declared.AxesAnswer.{AxesAnswer}
use Rattle.orientation_answers.specs.declared.OrientationsAnswer.{OrientationsAnswer}
use Rattle.orientation_answers.specs.declared.QuaternionAnswer.{QuaternionAnswer}

-- ---- axes

-- the axes of an answer that has none
abbrev pub no_axes : Axes
no_axes = record { first = 0; second = 0; third = 0 }

-- an answer that has axes
abbrev pub axes : ℕ → ℕ → ℕ → Axes → AxesAnswer
axes kind number place a = record { kind = kind; number = number; place = place; axes = a }

-- the axes that a matrix names
abbrev pub of_orientation : Result Axes Refusal → AxesAnswer
of_orientation (Ok a) = axes is 0 0 a
of_orientation (Err r) = axes refused r.number r.place no_axes

-- the axes of a group
abbrev pub of_oriented : Result (Option Axes) Refusal → AxesAnswer
of_oriented (Ok (Some a)) = axes is 0 0 a
of_oriented (Ok None) = axes nothing 0 0 no_axes
of_oriented (Err r) = axes refused r.number r.place no_axes

-- an answer that has two axes
abbrev pub orientations : ℕ → ℕ → ℕ → Axes → Axes → OrientationsAnswer
orientations kind number place orin orio = record { kind = kind; number = number; place = place; orin = orin; orio = orio }

-- the axes of ORIN and ORIO
abbrev pub of_orientations : Result Orientations Refusal → OrientationsAnswer
of_orientations (Ok o) = orientations is 0 0 o.orin o.orio
of_orientations (Err r) = orientations refused r.number r.place no_axes no_axes

-- ---- a quaternion

-- the quaternion of an answer that has none
abbrev pub no_quaternion : Quaternion
no_quaternion = record { w = nought; x = nought; y = nought; z = nought }

-- an answer that has a quaternion
abbrev pub quaternion : ℕ → ℕ → ℕ → Quaternion → QuaternionAnswer
quaternion kind number place q = record { kind = kind; number = number; place = place; quaternion = q }

-- the scaled quaternion of a row
abbrev pub of_scaled_row : Result (Option Quaternion) Refusal → QuaternionAnswer
of_scaled_row (Ok (Some q)) = quaternion is 0 0 q
of_scaled_row (Ok None) = quaternion nothing 0 0 no_quaternion
of_scaled_row (Err r) = quaternion refused r.number r.place no_quaternion
