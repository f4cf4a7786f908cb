-- What the analysis leaves, as contracts see it.
use Rattle.std.specs.Prelude.{◌≡◌, ℕ, ◌<◌, Bool, false, List, length, slice_index_or, if◌then◌else◌}
use Rattle.oct_def.specs.Octagon.{Octagon, bottom_value, tight_value}
use Rattle.spl_core.specs.Graph.{Graph}
use Rattle.iteration.specs.Solved.{stored_of, read_of, rounds_of}

-- the stored value of each point, which points are cut points, and the number of ascending rounds
pub record Solution : Type 0 where
  pub values : List Octagon
  pub cuts : List Bool
  pub rounds : ℕ

abbrev pub stored_in : Solution → ℕ → Octagon
stored_in s p = slice_index_or s.values p (bottom_value 0)

-- a cut point is read through its tight closure
abbrev pub read_in : Solution → ℕ → Octagon
read_in s p = if slice_index_or s.cuts p false then tight_value (stored_in s p) else stored_in s p

-- the solution of a graph, for a delay and so many rounds of the descent
pub record IsSolution (g : Graph) (delay descend : ℕ) (s : Solution) : Type 0 where
  pub points : length s.values ≡ length g.owners
  pub stored : (p : ℕ) → p < length g.owners → stored_in s p ≡ stored_of g delay descend p
  pub read : (p : ℕ) → p < length g.owners → read_in s p ≡ read_of g delay descend p
  pub rounds : s.rounds ≡ rounds_of g delay
