-- Join, widening and narrowing as one operation, entry by entry.
use Rattle.std.specs.Prelude.{ℕ, length}
use Rattle.oct_def.specs.Bound.{Bound, greatest}
use Rattle.oct_def.specs.Table.{Matrix, table, at}
use Rattle.oct_def.specs.Octagon.{Octagon, on_either, widen_bound, narrow_bound}
use Rattle.dec_lattice.specs.declared.operation.Operation.{Operation}
use Rattle.dec_lattice.specs.declared.operation.Operation.TheVariants.{Join, Widening, Narrowing}

-- what a bound becomes by another
abbrev pub combined : Operation → Bound → Bound → Bound
combined Join a b = greatest a b
combined Widening a b = widen_bound a b
combined Narrowing a b = narrow_bound a b

unfoldable pub combined_entry : Operation → Matrix → Matrix → ℕ → ℕ → Bound
combined_entry op a b i j = combined op (at a i j) (at b i j)

unfoldable pub combined_matrix : Operation → Matrix → Matrix → Matrix
combined_matrix op a b = table (length a) (combined_entry op a b)

-- two values combined, where Bottom gives the other one
unfoldable pub either_value : Operation → Octagon → Octagon → Octagon
either_value op a b = record { dims = a.dims; matrix = on_either (combined_matrix op) a.matrix b.matrix }
