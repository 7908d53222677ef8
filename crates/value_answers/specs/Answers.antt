-- What an element, a shape and an average are told as to a caller in another language: a record of numbers, of which those that the answer does not
-- have are 0 (document 01, Refusal numbers: "A refusal returns its number, a place and zeros"). Assumes nothing: these are definitions.
use Rattle.std.specs.Prelude.{ℕ, ℤ, pos, Float, Option, Some, None, Result, Ok, Err}
use Rattle.foundation.specs.declared.refusal.Refusal.{Refusal}
use Rattle.elements.specs.declared.Element.{Element}
use Rattle.elements.specs.declared.Element.TheVariants as element
use Rattle.value.specs.declared.Kind.{Kind}
use Rattle.value.specs.declared.Kind.TheVariants as kind
use Rattle.value.specs.declared.Shape.{Shape}
use Rattle.answer_kinds.specs.Kinds.{refused, is, nothing, nought}
use Rattle.value_answers.specs.declared.RealAnswer.{RealAnswer}
use Rattle.value_answers.specs.declared.Number.{Number}
use Rattle.value_answers.specs.declared.ElementAnswer.{ElementAnswer}
use Rattle.value_answers.specs.declared.ShapeAnswer.{ShapeAnswer}

-- ---- a number in f64

-- an answer that has such a number
abbrev pub real : ℕ → ℕ → ℕ → Float → RealAnswer
real kind number place value = record { kind = kind; number = number; place = place; value = value }

-- the average duration of a reading
abbrev pub of_average : Result (Option Float) Refusal → RealAnswer
of_average (Ok (Some x)) = real is 0 0 x
of_average (Ok None) = real nothing 0 0 nought
of_average (Err r) = real refused r.number r.place nought

-- ---- an element: its form, 0 to 3, and the number in the field of that form

-- the record of an element
abbrev pub formed : ℕ → Float → ℤ → ℕ → Float → Number
formed form single signed unsigned double = record { form = form; single = single; signed = signed; unsigned = unsigned; double = double }

-- by its form
abbrev pub of_element : Element → Number
of_element (element.Signed n) = formed 0 nought n 0 nought
of_element (element.Unsigned n) = formed 1 nought (pos 0) n nought
of_element (element.Single x) = formed 2 x (pos 0) 0 nought
of_element (element.Double x) = formed 3 nought (pos 0) 0 x

-- an answer that has an element
abbrev pub read : ℕ → ℕ → ℕ → Number → ElementAnswer
read kind number place e = record { kind = kind; number = number; place = place; element = e }

-- the element that was read
abbrev pub of_read : Result Element Refusal → ElementAnswer
of_read (Ok e) = read is 0 0 (of_element e)
of_read (Err r) = read refused r.number r.place (of_element (element.Signed (pos 0)))

-- ---- a shape

-- numbered in our own order: numbers, texts, the rest
abbrev pub of_kind : Kind → ℕ
of_kind kind.Single = 0
of_kind kind.List = 1
of_kind kind.Vector = 2
of_kind kind.TimedVector = 3
of_kind kind.Nested = 4
of_kind kind.Text = 5
of_kind kind.Texts = 6
of_kind kind.Identifier = 7
of_kind kind.DateTime = 8
of_kind kind.Quaternions = 9
of_kind kind.Structures = 10
of_kind kind.Unknown = 11

-- an answer that has the name, the rows and the columns of a value
abbrev pub shape : ℕ → ℕ → ℕ → ℕ → ℕ → ℕ → ShapeAnswer
shape kind number place called rows columns = record { kind = kind; number = number; place = place; value_kind = called; rows = rows; columns = columns }

-- the shape of a value
abbrev pub of_shaped : Result Shape Refusal → ShapeAnswer
of_shaped (Ok s) = shape is 0 0 (of_kind s.kind) s.rows s.columns
of_shaped (Err r) = shape refused r.number r.place 0 0 0
