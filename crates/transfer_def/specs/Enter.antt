-- A call: the value at the callee's entry.
use Rattle.std.specs.Prelude.{ℕ, ◌+◌, ◌*◌, ◌/◌, ◌%◌, ◌&&◌, nat_eq, nat_lt, List, length, slice_index_or, Some, None, pos, if◌then◌else◌}
use Rattle.std.specs.Option.{option_map}
use Rattle.oct_def.specs.Bound.{Bound}
use Rattle.oct_def.specs.Table.{Matrix, table, at}
use Rattle.oct_def.specs.Octagon.{Octagon}

-- the signed dimension of the caller that is the argument of a signed input
unfoldable pub argument_dimension : List ℕ → ℕ → ℕ
argument_dimension args i = 2 * slice_index_or args (i / 2) 0 + i % 2

-- between two signed inputs the caller's entry between their arguments; all else is none
unfoldable pub input_entry : List ℕ → Matrix → ℕ → ℕ → Bound
input_entry args m i j =
    if nat_lt i (2 * length args) && nat_lt j (2 * length args)
    then at m (argument_dimension args i) (argument_dimension args j)
    else None

-- and 0 on the diagonal
unfoldable pub enter_entry : List ℕ → Matrix → ℕ → ℕ → Bound
enter_entry args m i j = if nat_eq i j then Some (pos 0) else input_entry args m i j

-- the matrix over the callee's variables, of which the inputs are the first
unfoldable pub enter_matrix : List ℕ → ℕ → Matrix → Matrix
enter_matrix args dims m = table (2 * dims) (enter_entry args m)

-- the value at the entry of a callee with so many variables
unfoldable pub enter_value : Octagon → List ℕ → ℕ → Octagon
enter_value v args dims = record { dims = dims; matrix = option_map (enter_matrix args dims) v.matrix }
