-- The numbers in a date's text, yymmddhhmmss.sss: GPMF description, Types (U), and document 01, Values. Assumes nothing: these are definitions.
use Rattle.std.specs.Prelude.{ℕ, ◌+◌, ◌-◌, cond, List, [], ◌∷◌, eqb, ltb, get_or, Option, Some, None}
use Prim.Native.Char.{code}
use Rattle.std.proofs.Math.Seq.{slice}
use Rattle.foundation.specs.Digits.{are_digits, worth}
use Rattle.dates.specs.declared.fields.Day.{Day}
use Rattle.dates.specs.declared.fields.Time.{Time}

-- what is read with a number, where there is one, and `other` where there is none
abbrev pub given : {R : Type 0} → R → Option ℕ → (ℕ → R) → R
given other (Some n) rest = rest n
given other None rest = other

-- one decimal digit or more, and nothing else
abbrev pub digits : List ℕ → Option ℕ
digits [] = None
digits (b ∷ s) = cond (are_digits 10 (b ∷ s)) (Some (worth 10 (b ∷ s))) None

-- a leading `+` is read in each field (document 01, Values)
unfoldable pub unsigned : List ℕ → Option ℕ
unsigned [] = None
unsigned (b ∷ s) = cond (eqb b (code "+")) (digits s) (digits (b ∷ s))

-- the year counts from 2000 (GPMF description, Types); a leading `-` is read in the year only (document 01, Values)
unfoldable pub year : List ℕ → Option ℕ
year [] = None
year (b ∷ s) =
    cond (eqb b (code "-"))
    (given None (digits s) λ n. Some (2000 - n))
    (given None (unsigned (b ∷ s)) λ n. Some (2000 + n))

-- a field: the bytes of the text from one place to before another
abbrev pub field : List ℕ → ℕ → ℕ → List ℕ
field text from to = slice from to text

-- the first six bytes: yymmdd
unfoldable pub day_of : List ℕ → Option Day
day_of text =
    let read : Option ℕ → (ℕ → Option Day) → Option Day = given None in
    read (year (field text 0 2)) λ y.
    read (unsigned (field text 2 4)) λ m.
    read (unsigned (field text 4 6)) λ d.
    Some (record { year = y; month = m; day = d })

-- the ten behind them: hhmmss.sss, where the thirteenth byte may be any ASCII byte (document 01, Values)
unfoldable pub time_of : List ℕ → Option Time
time_of text =
    let read : Option ℕ → (ℕ → Option Time) → Option Time = given None in
    read (unsigned (field text 6 8)) λ h.
    read (unsigned (field text 8 10)) λ m.
    read (unsigned (field text 10 12)) λ s.
    read (unsigned (field text 13 16)) λ ms.
    cond (ltb (get_or text 12 0) 128) (Some (record { hour = h; minute = m; second = s; millisecond = ms })) None
