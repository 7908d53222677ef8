-- The law that joins both ways: the matrix of two signed orders, read back, names each ORIO letter by where it stands in ORIN. It is one test of all
-- 48 × 48 pairs, computed, behind a law that takes the floats out of it: with them it took most of its time. Assumes nothing.
use Prim.Native.Nat.{ℕ}
use Prim.Native.Char.{code}
use mathlib.Core.Path.{◌≡◌, refl, ap, sym, ◌∙◌}
use mathlib.Core.Bool.{Bool, true, false, cond, not, ◌&&◌, ◌||◌}
use mathlib.Core.Logic.{⊎_elim}
use mathlib.Core.List.Memᴰ
use mathlib.Core.List.{List, [], ◌∷◌, map, flat_map, Memᴰ}
use lib.Ieee.{Float, lt}
use lib.Dec.{eqb}
use lib.ListN.{length}
use Rattle.axes.specs.declared.Axes.{Axes}
use Rattle.foundation.specs.declared.refusal.Refusal.{Refusal}
use Rattle.std.specs.Prelude.{Option, Some, Result, Ok}
use Rattle.axes.specs.Matrix.{one, minus_one, nought, entry_of, row_of, matrix_of}
use Rattle.axes.specs.Back.{beyond, none, axis_of, lettered, orientation_of, orientation_in}
use Rattle.axes.specs.ReadBack.{signed_orders, one_letter, standing_in}

-- two functions that give the same list of a list agree at each of its members
agree : {B : Type 0} (f g : Axes → B) (axes : List Axes) (a : Axes) → map f axes ≡ map g axes → Memᴰ a axes → f a ≡ g a
agree f g [] a e m = absurd (Memᴰ.not-nil m)
agree f g (x ∷ axes) a e m =
    let here : f x ≡ g x = cc in
    let rest : map f axes ≡ map g axes = cc in
    ⊎_elim (λ h. ap f h ∙ here ∙ ap g (sym h)) (λ l. agree f g axes a rest l) (Memᴰ.cases_cons m)

-- whether axes stand in a list, and whether no two of a list are the same
pub among : Axes → List Axes → Bool
among a [] = false
among a (b ∷ axes) = (eqb a.first b.first && eqb a.second b.second && eqb a.third b.third) || among a axes

pub different : List Axes → Bool
different [] = true
different (a ∷ axes) = not (among a axes) && different axes

-- six orders with eight signs each, all different
pub forty_eight : (length signed_orders ≡ 48) × (different signed_orders ≡ true)
unfolding flat_map different among
forty_eight = (refl, refl)

-- what a column of the matrix says, without its number: it names its axis where the letters are the same, small where they differ in case
abbrev says : ℕ → ℕ → ℕ → ℕ → Option ℕ → Option ℕ
says o i letter less next = cond (eqb i o) (Some letter) (cond (one_letter i o) (Some less) next)

column : (o i letter less : ℕ) (next : Option ℕ) → beyond (entry_of o i) letter less next ≡ says o i letter less next
unfolding entry_of beyond lt
column o i letter less next = go (eqb i o) (one_letter i o)
  where
    go : (same alike : Bool) → beyond (cond same one (cond alike minus_one nought)) letter less next ≡ cond same (Some letter) (cond alike (Some less) next)
    go true alike = refl
    go false true = refl
    go false false = refl

-- so a row says its axis without its numbers
abbrev axis_by : Axes → ℕ → Option ℕ
axis_by orin o =
    says o orin.first (code "X") (code "x") (says o orin.second (code "Y") (code "y") (says o orin.third (code "Z") (code "z") none))

row : (orin : Axes) (o : ℕ) → axis_of (row_of orin o) ≡ axis_by orin o
row orin o = simp column

-- the matrix read back so, and what it should name
abbrev back : Axes → Axes → Result Axes Refusal
back orin orio = lettered (axis_by orin orio.first) (axis_by orin orio.second) (axis_by orin orio.third)

abbrev named : Axes → Axes → Result Axes Refusal
named orin orio = Ok (standing_in orin orio)

-- THE TEST of all pairs
all_pairs : map (λ (i : Axes). map (back i) signed_orders) signed_orders ≡ map (λ (i : Axes). map (named i) signed_orders) signed_orders
unfolding lettered flat_map
all_pairs = refl

-- READ BACK: the axis of each ORIO letter is that of its place in ORIN
pub read_back : (orin orio : Axes) → Memᴰ orin signed_orders → Memᴰ orio signed_orders → orientation_of (matrix_of orin orio) ≡ Ok (standing_in orin orio)
read_back orin orio i o =
    let of_orin = agree (λ (a : Axes). map (back a) signed_orders) (λ (a : Axes). map (named a) signed_orders) signed_orders orin all_pairs i in
    rw (row orin orio.first, row orin orio.second, row orin orio.third) (agree (back orin) (named orin) signed_orders orio of_orin o)

-- nine numbers one behind the other are three rows
pub nine_as_rows : (a b c d e f g h i : Float)
    → orientation_in (a ∷ b ∷ c ∷ d ∷ e ∷ f ∷ g ∷ h ∷ i ∷ []) ≡ orientation_of ((a ∷ b ∷ c ∷ []) ∷ (d ∷ e ∷ f ∷ []) ∷ (g ∷ h ∷ i ∷ []) ∷ [])
unfolding orientation_in
nine_as_rows a b c d e f g h i = refl
