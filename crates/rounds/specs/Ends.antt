-- The ascent ends within a number of rounds, and what it leaves solves the equations.
use Rattle.std.specs.Prelude.{◌≡◌, ℕ, zero, suc, ◌<◌, ◌≤◌, ◌⊎◌, false, List, length}
use Rattle.oct_def.specs.Octagon.{IsOctagon, MeetsOctagon}
use Rattle.oct_def.specs.Below.{IsBelow}
use Rattle.spl_core.specs.Expression.{State}
use Rattle.rounds.specs.System.{System, KeepsSizes, IsSystem, most_rounds}
use Rattle.rounds.specs.Rounds.{Cell, cell_at, visits, changing}
use Rattle.rounds.specs.Solved.{values_in, source_in, rising, start, ascent_of, rounds_of, solved, read_of}

-- as many cells as points, each value with its point's dimensions
pub record AreCells (s : System) (cells : List Cell) : Type 0 where
  pub points : length cells ≡ s.points
  pub dims : (p : ℕ) → p < s.points → (cell_at cells p).value.dims ≡ s.dims p

-- every stored value is a value with its point's number of dimensions
pub record AreGood (s : System) (cells : List Cell) : Type 0 where
  pub sized : AreCells s cells
  pub octagons : (p : ℕ) → p < s.points → IsOctagon (cell_at cells p).value

-- some round of so many changes nothing
abbrev pub EndsIn : (ℕ → List Cell → Cell) → List ℕ → ℕ → List Cell → Type 0
EndsIn next order zero cells = ⊥
EndsIn next order (suc fuel) cells = (changing next order cells ≡ false) ⊎ EndsIn next order fuel (visits next order cells)

-- ---- laws

-- the ascent ends within the bound: a round within it changes nothing, and what the ascent leaves is unchanged by a further one.
-- It leaves values, and F of it is below it at each point: entry by entry, and so for the states that meet it
pub record AscentEnds (s : System) (delay : ℕ) : Type 0 where
  pub ends : EndsIn (rising s) s.order (most_rounds s delay) (start s delay)
  pub quiet : changing (rising s) s.order (ascent_of s delay).cells ≡ false
  pub rounds : rounds_of s delay ≤ most_rounds s delay
  pub good : AreGood s (ascent_of s delay).cells
  pub below : (p : ℕ) → p < s.points → IsBelow (source_in s p (ascent_of s delay).cells) (values_in (ascent_of s delay).cells p)
  pub meets : (p : ℕ) (st : State) → p < s.points → MeetsOctagon st (source_in s p (ascent_of s delay).cells) → MeetsOctagon st (values_in (ascent_of s delay).cells p)

abbrev pub AscentsEnd : Type 0
AscentsEnd = (s : System) (delay : ℕ) → IsSystem s → AscentEnds s delay

-- what is stored in the end has as many cells as points, and what is read has its point's dimensions
pub record AreSolved (s : System) (delay descend : ℕ) : Type 0 where
  pub cells : AreCells s (solved s delay descend)
  pub dims : (p : ℕ) → p < s.points → (read_of s delay descend p).dims ≡ s.dims p

abbrev pub SolutionsAreSized : Type 0
SolutionsAreSized = (s : System) (delay descend : ℕ) → KeepsSizes s → AreSolved s delay descend

-- and it is values
abbrev pub SolutionsAreValues : Type 0
SolutionsAreValues = (s : System) (delay descend : ℕ) → IsSystem s → AreGood s (solved s delay descend)
