-- What is given for the points of a graph, as values of the points' dimensions.
use Rattle.std.specs.Prelude.{ℕ, Option, List, length, map}
use Rattle.std.specs.List.{range_with_len}
use Rattle.oct_def.specs.Table.{Matrix}
use Rattle.oct_def.specs.Octagon.{Octagon}
use Rattle.spl_core.specs.Graph.{Graph, dims_at}
use Rattle.equations.specs.Equations.{value_in}
use Rattle.inv_text.specs.Invariants.{matrix_in}

-- the number of variables of each point
unfoldable pub dims_of : Graph → List ℕ
dims_of g = map (dims_at g) (range_with_len 0 (length g.owners))

-- what is given for a point, over its variables
abbrev pub given_at : Graph → List (Option Matrix) → ℕ → Octagon
given_at g x p = record { dims = dims_at g p; matrix = matrix_in x p }

-- the same for all points
unfoldable pub values_given : Graph → List (Option Matrix) → List Octagon
values_given g x = map (given_at g x) (range_with_len 0 (length g.owners))

abbrev pub value_given : Graph → List (Option Matrix) → ℕ → Octagon
value_given g x = value_in (values_given g x)
