-- The matrix of some variables of a matrix.
use Rattle.std.specs.Prelude.{ℕ, ◌+◌, ◌*◌, ◌/◌, ◌%◌, List, length, slice_index_or}
use Rattle.oct_def.specs.Bound.{Bound}
use Rattle.oct_def.specs.Table.{Matrix, table, at}

-- the signed dimension of the whole matrix that a signed dimension of the listed variables is
unfoldable pub listed_dimension : List ℕ → ℕ → ℕ
listed_dimension vs i = 2 * slice_index_or vs (i / 2) 0 + i % 2

unfoldable pub restricted_entry : List ℕ → Matrix → ℕ → ℕ → Bound
restricted_entry vs m i j = at m (listed_dimension vs i) (listed_dimension vs j)

-- the matrix of the listed variables, in the order of the list
unfoldable pub restricted : List ℕ → Matrix → Matrix
restricted vs m = table (2 * length vs) (restricted_entry vs m)
