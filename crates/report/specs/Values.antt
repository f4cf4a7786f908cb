-- What a report needs of a program: its core with its fails, and the value that is read at each point.
use Rattle.std.specs.Prelude.{◌≡◌, ℕ, ◌<◌, List, length, slice_index_or}
use Rattle.oct_def.specs.Octagon.{Octagon, bottom_value}
use Rattle.spl_tree.specs.Program.{Program}
use Rattle.spl_core.specs.Parts.{Parts}
use Rattle.spl_core.specs.Graph.{Graph, graph_of, dims_at}
use Rattle.control_points.specs.declared.built.Fail.{Fail}
use Rattle.control_points.specs.CoreOf.{core_of, fails_of}

-- the core of the program, and its fails
pub record IsBuiltOf (p : Program) (c : Parts) (fs : List Fail) : Type 0 where
  pub core : graph_of c ≡ core_of p
  pub fails : fs ≡ fails_of p

-- the value of a point in a list of them
abbrev pub value_in : List Octagon → ℕ → Octagon
value_in values k = slice_index_or values k (bottom_value 0)

-- a value for each point, over the point's dimensions
pub record AreSized (g : Graph) (values : List Octagon) : Type 0 where
  pub points : length values ≡ length g.owners
  pub dims : (k : ℕ) → k < length g.owners → (value_in values k).dims ≡ dims_at g k
