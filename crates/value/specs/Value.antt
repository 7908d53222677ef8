-- What an item's payload holds: rows of elements, by the letter of its type (document 01, Values; GPMF description, Types).
-- A value is settled by its header, its payload's bytes and its TYPE text, and by nothing else. Assumes nothing: these are definitions.
use Rattle.std.specs.Prelude.{ℕ, ◌+◌, ◌*◌, ◌/◌, Bool, cond, not, ◌&&◌, ◌||◌, List, [], ◌∷◌, eqb, leb, length, take, drop, get_or, Result, Ok, Err}
use Prim.Native.Char.{code}
use Rattle.foundation.specs.Text.{key}
use Rattle.foundation.specs.Refusals as refusals
use Rattle.klv.specs.declared.KLV.{KLV}
use Rattle.klv.specs.OneText.{one_text}
use Rattle.elements.specs.declared.Element.{Element}
use Rattle.elements.specs.declared.Element.TheVariants.{Unsigned}
use Rattle.elements.specs.Types.{width_of}
use Rattle.elements.specs.Element.{element_at}
use Rattle.texts.specs.Kept.{kept, up_to_zero}
use Rattle.texts.specs.Texts.{are_well_formed}
use Rattle.dates.specs.Date.{date_of}
use Rattle.dates.specs.Date as Date
use Rattle.foundation.specs.declared.refusal.Fault.{Fault}
use Rattle.foundation.specs.declared.refusal.Fault.TheVariants.{LongType}
use Rattle.custom_type.specs.Expansion.{expanded}
use Rattle.custom_type.specs.Resolved as Resolved
use Rattle.value.specs.declared.Kind.{Kind}
use Rattle.value.specs.declared.Kind.TheVariants as kind
use Rattle.value.specs.declared.Grid.{Grid}
use Rattle.value.specs.declared.Plan.{Plan}
use Rattle.value.specs.declared.Plan.TheVariants as plan

-- rows, and in each row columns, of elements
pub record Value : Type 0 where
  pub kind : Kind
  pub rows : ℕ
  pub columns : ℕ → ℕ
  pub element : ℕ → ℕ → Element

-- a value, or the number of its refusal
pub data ValueOutcome : Type 0 where
  readable : Value → ValueOutcome
  refused : ℕ → ValueOutcome

-- refusal 6: too few bytes in the item's own payload for the value's whole shape
abbrev pub wanting : ℕ → List ℕ → Value → ValueOutcome
wanting bytes payload v = cond (leb bytes (length payload)) (readable v) (refused refusals.too_few)

-- ---- rows of elements that are all of one letter

-- row r, column c starts at (r × n + c) × width
abbrev pub placed : Grid → List ℕ → ℕ → ℕ → Element
placed g payload row column = element_at payload ((row * g.columns + column) * width_of g.letter) g.letter

-- rows and columns of such elements
abbrev pub gridded : Grid → List ℕ → ValueOutcome
gridded g payload =
    wanting (g.rows * g.columns * width_of g.letter) payload (record { kind = g.kind; rows = g.rows; columns = λ row. g.columns; element = placed g payload })

-- the elements for each repeat: "n = size / width rounded down" (document 01, Values)
abbrev pub per_row : KLV → ℕ
per_row h = h.size / width_of h.data_type

-- "repeat 1 and n 1 is single, .." (document 01, Values)
abbrev pub is_one : ℕ → ℕ → Bool
is_one repeat n = eqb repeat 1 && eqb n 1

-- ".. other n (also 0) nested" (document 01, Values)
abbrev pub is_nested : ℕ → Bool
is_nested n = not (eqb n 1 || (eqb n 3 || eqb n 4))

-- ".. n 1 list, 3 vector, 4 timed vector, .." (document 01, Values)
unfoldable pub kind_of : ℕ → ℕ → Kind
kind_of repeat n =
    cond (is_one repeat n) kind.Single (cond (is_nested n) kind.Nested (cond (eqb n 1) kind.List (cond (eqb n 3) kind.Vector kind.TimedVector)))

-- numbers, n to a row
abbrev pub numbers : KLV → Grid
numbers h = record { kind = kind_of h.repeat (per_row h); rows = h.repeat; columns = per_row h; letter = h.data_type }

-- s under key CORI or IORI: four numbers w x y z per repeat, size not looked at
unfoldable pub is_quaternions : KLV → Bool
is_quaternions h = eqb h.data_type (code "s") && (eqb h.key (key "CORI") || eqb h.key (key "IORI"))

-- w x y z are the columns
abbrev pub quaternions : KLV → Grid
quaternions h = record { kind = kind.Quaternions; rows = h.repeat; columns = 4; letter = code "s" }

-- one Latin-1 text: a text is a row, its kept bytes the columns
abbrev pub text : List ℕ → Grid
text payload = record { kind = kind.Text; rows = 1; columns = length (kept payload); letter = code "B" }

-- G: four 32-bit numbers
abbrev pub identifier : Grid
identifier = record { kind = kind.Identifier; rows = 1; columns = 4; letter = code "L" }

-- any other letter, and a structure without TYPE: no elements
abbrev pub unknown : Grid
unknown = record { kind = kind.Unknown; rows = 0; columns = 0; letter = 0 }

-- ---- several texts

-- each has room for size bytes, of which it keeps those up to its first zero
abbrev pub text_of : KLV → List ℕ → ℕ → List ℕ
text_of h payload row = up_to_zero (take h.size (drop (row * h.size) payload))

-- the room of several texts, a row each
abbrev pub room : KLV → Grid
room h = record { kind = kind.Texts; rows = h.repeat; columns = h.size; letter = code "B" }

-- a text is a row, its kept bytes the columns
abbrev pub text_rows : KLV → List ℕ → Value
text_rows h payload = record { kind = kind.Texts; rows = h.repeat; columns = λ row. length (text_of h payload row); element = placed (room h) payload }

-- one UTF-8 text for each size bytes, refused with 7 if any of them is not
abbrev pub texts : KLV → List ℕ → ValueOutcome
texts h payload = cond (are_well_formed h.size payload) (readable (text_rows h payload)) (refused refusals.unreadable)

-- ---- a date: milliseconds since 1970

-- of a date as it was read: one element
abbrev pub dated : Result ℕ Fault → ValueOutcome
dated (Ok n) = readable (record { kind = kind.DateTime; rows = 1; columns = λ row. 1; element = λ row column. Unsigned n })
dated (Err f) = refused (Date.refusal (Err f))

-- ---- structures, whose columns have letters of their own

-- the letters of a row that read something: the columns
unfoldable pub column_letters : List ℕ → List ℕ
column_letters [] = []
column_letters (letter ∷ letters) = cond (eqb (width_of letter) 0) (column_letters letters) (letter ∷ column_letters letters)

-- the bytes that letters read
unfoldable pub widths_of : List ℕ → ℕ
widths_of [] = 0
widths_of (letter ∷ letters) = width_of letter + widths_of letters

-- of the letters that read something: "each row takes the sum of its letters' widths, size not looked at"
abbrev pub structure_rows : List ℕ → KLV → List ℕ → Value
structure_rows letters h payload =
    record {
      kind = kind.Structures;
      rows = h.repeat;
      columns = λ row. length letters;
      element = λ row column. element_at payload (row * widths_of letters + widths_of (take column letters)) (get_or letters column 0);
    }

-- they want as many bytes as the rows take
abbrev pub structured : List ℕ → KLV → List ℕ → ValueOutcome
structured letters h payload = wanting (h.repeat * widths_of letters) payload (structure_rows letters h payload)

-- the TYPE text is written out, to 256 characters at most (refusal 8, of `resolve_custom_type`); no TYPE, or an empty one: unknown
abbrev pub structures : List ℕ → KLV → List ℕ → ValueOutcome
structures [] h payload = gridded unknown payload
structures (c ∷ type) h payload = cond (Resolved.fits (expanded (c ∷ type))) (structured (column_letters (expanded (c ∷ type))) h payload) (refused (Resolved.refusal (Err LongType)))

-- ---- THE VALUE

-- the letters that are no numbers: c of several texts, an identifier, a date, a structure; any other is unknown
unfoldable pub letter_plan : ℕ → Plan
letter_plan letter =
    cond (eqb letter (code "c")) plan.Texts
    (cond (eqb letter (code "G")) (plan.Even identifier)
    (cond (eqb letter (code "U")) plan.Date
    (cond (eqb letter (code "?")) plan.Structures (plan.Even unknown))))

-- what is to be read, by the letter of the type
unfoldable pub plan_of : KLV → List ℕ → Plan
plan_of h payload =
    cond (is_quaternions h) (plan.Even (quaternions h))
    (cond (not (eqb (width_of h.data_type) 0)) (plan.Even (numbers h))
    (cond (one_text h) (plan.Even (text payload)) (letter_plan h.data_type)))

-- by what is to be read
abbrev pub value_by : Plan → KLV → List ℕ → List ℕ → ValueOutcome
value_by (plan.Even g) h payload type = gridded g payload
value_by plan.Texts h payload type = texts h payload
value_by plan.Date h payload type = dated (date_of payload)
value_by plan.Structures h payload type = structures type h payload

-- of a header, a payload and the TYPE text in force, without its trailing zeros; empty for none
abbrev pub value_of : KLV → List ℕ → List ℕ → ValueOutcome
value_of h payload type = value_by (plan_of h payload) h payload type
