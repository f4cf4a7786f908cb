-- Variables that are added behind those of a matrix, and that take the places of others.
use Rattle.std.specs.Prelude.{ℕ, ◌+◌, ◌*◌, ◌/◌, ◌%◌, ◌&&◌, nat_eq, nat_lt, List, [], ◌∷◌, if◌then◌else◌}
use Rattle.oct_def.specs.Bound.{Bound}
use Rattle.oct_def.specs.Table.{Matrix, table, at}
use Rattle.oct_def.specs.Octagon.{top_entry}

-- a matrix over n variables with k more, the last ones, that have no bounds
unfoldable pub extended_entry : ℕ → Matrix → ℕ → ℕ → Bound
extended_entry n m i j = if nat_lt i (2 * n) && nat_lt j (2 * n) then at m i j else top_entry i j

unfoldable pub extended : ℕ → ℕ → Matrix → Matrix
extended n k m = table (2 * (n + k)) (extended_entry n m)

-- the variable that takes the place of v: the first added one, k, that of the first target, the next one that of the second,
-- and so on; a variable that is no target keeps its place
unfoldable pub moved_variable : ℕ → List ℕ → ℕ → ℕ
moved_variable k [] v = v
moved_variable k (x ∷ targets) v = if nat_eq v x then k else moved_variable (k + 1) targets v

-- the same of signed dimensions, n the first added variable
unfoldable pub moved_dimension : ℕ → List ℕ → ℕ → ℕ
moved_dimension n targets i = 2 * moved_variable n targets (i / 2) + i % 2

-- the first n variables, each target's place taken by an added variable; the targets' old variables are dropped
unfoldable pub moved_entry : ℕ → List ℕ → Matrix → ℕ → ℕ → Bound
moved_entry n targets m i j = at m (moved_dimension n targets i) (moved_dimension n targets j)

unfoldable pub moved : ℕ → List ℕ → Matrix → Matrix
moved n targets m = table (2 * n) (moved_entry n targets m)
