-- What a value of the plain domain stands for.
use Rattle.std.specs.Prelude.{ℕ, ◌≤◌, Option}
use Rattle.oct_def.specs.Table.{Matrix}
use Rattle.oct_def.specs.Octagon.{Octagon, IsOctagon}

-- a value over so many variables
abbrev pub octagon_of : ℕ → Option Matrix → Octagon
octagon_of dims matrix = record { dims = dims; matrix = matrix }

-- at most 256 variables, and a value of the domain
pub record IsKept (dims : ℕ) (matrix : Option Matrix) : Type 0 where
  pub small : dims ≤ 256
  pub value : IsOctagon (octagon_of dims matrix)
