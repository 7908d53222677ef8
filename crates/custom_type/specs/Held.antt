-- What the code holds of an expansion while it goes through a text, and what it says of one character more. Assumes nothing: these are definitions.
use Rattle.std.specs.Prelude.{ℕ, ◌+◌, ◌*◌, ◌^◌, ◌≡◌, Bool, true, false, cond, not, ◌&&◌, List, [], ◌∷◌, ◌++◌, ltb, eqb, take, replicate}
use Prim.Native.Char.{code}
use Rattle.foundation.specs.Digits.{worth_of, worth}
use Rattle.custom_type.specs.Number.{readable, without_plus}
use Rattle.custom_type.specs.Expansion.{Expansion, start, copied, last_of, gone_through}
use Rattle.custom_type.specs.declared.count.Count.{Count}
use Rattle.custom_type.specs.declared.count.Count.TheVariants.{Empty, Number, Unreadable}
use Rattle.custom_type.specs.declared.step.Held.{Held}
use Rattle.custom_type.specs.declared.step.Turn.{Turn}

-- ---- the number

-- whether there is nothing
abbrev pub is_empty : List ℕ → Bool
is_empty [] = true
is_empty (c ∷ s) = false

-- what was collected, as a number so far
abbrev pub count_of : List ℕ → Count
count_of [] = Empty
count_of (c ∷ s) = cond (readable (without_plus (c ∷ s))) (Number (worth 10 (without_plus (c ∷ s)))) Unreadable

-- the number: 0 where there is none
abbrev pub number_of : Count → ℕ
number_of Empty = 0
number_of (Number n) = n
number_of Unreadable = 0

-- one character more behind the digits of a number
abbrev pub with_digit : ℕ → ℕ → Count
with_digit n c = cond (ltb (worth_of c) 10 && ltb (n * 10 + worth_of c) (2 ^ 64)) (Number (n * 10 + worth_of c)) Unreadable

-- one character more behind what was collected: a `+` is read in front alone
unfoldable pub next_count : Count → ℕ → Count
next_count Empty c = cond (eqb c (code "+")) (Number 0) (with_digit 0 c)
next_count (Number n) c = with_digit n c
next_count Unreadable c = Unreadable

-- ---- the expansion

-- the last character, as it is copied
abbrev pub last_copied : List ℕ → ℕ
last_copied [] = 0
last_copied (c ∷ s) = copied (last_of c s)

-- the last character instead of all, and the count instead of what was collected
abbrev pub held_of : Expansion → Held
held_of x =
    record { written = not (is_empty x.written); last = last_copied x.written; collecting = x.collecting; count = count_of x.collected }

-- a turn that takes x to y: what is held then, and the run of one character that was written
pub record Follows (x y : Expansion) (t : Turn) : Type 0 where
  pub held : t.held ≡ held_of y
  pub wrote : y.written ≡ x.written ++ replicate t.times t.character

-- a turn does to whatever is held what f does to the expansion
abbrev pub Turned : Held → (Expansion → Expansion) → Turn → Type 0
Turned h f t = (x : Expansion) → h ≡ held_of x → Follows x (f x) t

-- the expansion of the first i characters
abbrev pub up_to : List ℕ → ℕ → Expansion
up_to text i = gone_through start (take i text)
