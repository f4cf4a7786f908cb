-- The random assignment on a value.
use Rattle.std.specs.Prelude.{ℕ, ◌*◌, ◌/◌, ◌||◌, nat_eq, if◌then◌else◌}
use Rattle.std.specs.Option.{option_map}
use Rattle.oct_def.specs.Bound.{Bound}
use Rattle.oct_def.specs.Table.{Matrix, table, at}
use Rattle.oct_def.specs.Octagon.{Octagon, top_entry}

-- the entries of x become none, 0 on the diagonal
unfoldable pub forgotten_entry : ℕ → Matrix → ℕ → ℕ → Bound
forgotten_entry x m i j = if nat_eq (i / 2) x || nat_eq (j / 2) x then top_entry i j else at m i j

unfoldable pub forgotten : ℕ → ℕ → Matrix → Matrix
forgotten n x m = table (2 * n) (forgotten_entry x m)

-- a value after a random assignment to x
unfoldable pub forget_value : ℕ → Octagon → Octagon
forget_value x v = record { dims = v.dims; matrix = option_map (forgotten v.dims x) v.matrix }
