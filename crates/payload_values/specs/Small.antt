-- What the crate's own functions tell one another besides the definitions: how large a grid can be. Assumes nothing: these are definitions.
use Rattle.std.specs.Prelude.{ℕ, ◌*◌, ◌^◌, ◌<◌, ◌≡◌, List}
use Rattle.klv.specs.declared.KLV.{KLV}
use Rattle.elements.specs.Types.{width_of}
use Rattle.value.specs.declared.Grid.{Grid}
use Rattle.value.specs.declared.Plan.{Plan}
use Rattle.value.specs.declared.Plan.TheVariants.{Even, Texts, Date, Structures}
use Rattle.value.specs.Value.{plan_of, letter_plan}

-- the cells of a grid, and their bytes, are counted in 64 bits
pub record Counted (g : Grid) : Type 0 where
  pub cells : g.rows * g.columns < 2 ^ 64
  pub bytes : g.rows * g.columns * width_of g.letter < 2 ^ 64

-- an answer is a grid that is counted so
pub record SmallGrid (g r : Grid) : Type 0 where
  pub is : r ≡ g
  pub counted : Counted r

-- of what is read as a grid
abbrev pub CountedPlan : Plan → Type 0
CountedPlan (Even g) = Counted g
CountedPlan Texts = Unit {0}
CountedPlan Date = Unit {0}
CountedPlan Structures = Unit {0}

-- an answer is the plan of a letter
pub record LetterPlanned (letter : ℕ) (r : Plan) : Type 0 where
  pub is : r ≡ letter_plan letter
  pub counted : CountedPlan r

-- an answer is the plan of a header and a payload
pub record Planned (h : KLV) (payload : List ℕ) (r : Plan) : Type 0 where
  pub is : r ≡ plan_of h payload
  pub counted : CountedPlan r
