-- The values of the domain and their lattice, entry by entry.
-- Join, widening and narrowing are those of A. Miné, "The Octagon Abstract Domain", Higher-Order and Symbolic
-- Computation 19 (2006).
use Rattle.std.specs.Prelude.{ℕ, ◌*◌, nat_eq, Option, Some, None, List, length, ℤ, pos, if◌then◌else◌}
use Rattle.std.specs.Option.{option_and_then}
use Rattle.oct_def.specs.Bound.{Bound, least, greatest, at_most}
use Rattle.oct_def.specs.Table.{Matrix, table, at}
use Rattle.oct_def.specs.Matrix.{IsEvenMatrix, MeetsValue}
use Rattle.oct_def.specs.Tight.{tight}

-- a value over so many variables: Bottom, which is no matrix, or a matrix
pub record Octagon : Type 0 where
  pub dims : ℕ
  pub matrix : Option Matrix

-- an integer state meets a value
abbrev pub MeetsOctagon : List ℤ → Octagon → Type 0
MeetsOctagon s v = MeetsValue s v.matrix

-- Bottom, or a coherent matrix over n variables in range with 0 on the diagonal and even unary entries
abbrev pub IsValueOver : ℕ → Option Matrix → Type 0
IsValueOver n None = Unit {0}
IsValueOver n (Some m) = IsEvenMatrix n m

-- a value of the domain
abbrev pub IsOctagon : Octagon → Type 0
IsOctagon v = IsValueOver v.dims v.matrix

-- Bottom over n variables
unfoldable pub bottom_value : ℕ → Octagon
bottom_value n = record { dims = n; matrix = None }

-- 0 on the diagonal, and no bound elsewhere
unfoldable pub top_entry : ℕ → ℕ → Bound
top_entry i j = if nat_eq i j then Some (pos 0) else None

unfoldable pub top_matrix : ℕ → Matrix
top_matrix n = table (2 * n) top_entry

unfoldable pub top_value : ℕ → Octagon
top_value n = record { dims = n; matrix = Some (top_matrix n) }

-- an operation on a value's matrix, which may end in Bottom; on Bottom it gives Bottom
abbrev pub on_matrix : (Matrix → Option Matrix) → Octagon → Octagon
on_matrix f v = record { dims = v.dims; matrix = option_and_then f v.matrix }

-- an operation on the matrices of two values, where Bottom gives the other one
abbrev pub on_either : (Matrix → Matrix → Matrix) → Option Matrix → Option Matrix → Option Matrix
on_either f None b = b
on_either f (Some x) None = Some x
on_either f (Some x) (Some y) = Some (f x y)

-- an operation on the matrices of two values, where Bottom on either side gives Bottom
abbrev pub on_both : (Matrix → Matrix → Matrix) → Option Matrix → Option Matrix → Option Matrix
on_both f None b = None
on_both f (Some x) None = None
on_both f (Some x) (Some y) = Some (f x y)

-- the tight closure of a value
unfoldable pub tight_value : Octagon → Octagon
tight_value v = on_matrix tight v

-- join: the greater entry at each place; Bottom gives the other side
unfoldable pub join_entry : Matrix → Matrix → ℕ → ℕ → Bound
join_entry a b i j = greatest (at a i j) (at b i j)

unfoldable pub join_matrix : Matrix → Matrix → Matrix
join_matrix a b = table (length a) (join_entry a b)

unfoldable pub join_value : Octagon → Octagon → Octagon
join_value a b = record { dims = a.dims; matrix = on_either join_matrix a.matrix b.matrix }

-- the lesser entry at each place: the bounds of both matrices
unfoldable pub least_entry : Matrix → Matrix → ℕ → ℕ → Bound
least_entry a b i j = least (at a i j) (at b i j)

unfoldable pub least_matrix : Matrix → Matrix → Matrix
least_matrix a b = table (length a) (least_entry a b)

-- widening: the left entry where the right one isn't above it, else none; Bottom gives the other side
abbrev pub widen_bound : Bound → Bound → Bound
widen_bound a b = if at_most b a then a else None

unfoldable pub widen_entry : Matrix → Matrix → ℕ → ℕ → Bound
widen_entry a b i j = widen_bound (at a i j) (at b i j)

unfoldable pub widen_matrix : Matrix → Matrix → Matrix
widen_matrix a b = table (length a) (widen_entry a b)

unfoldable pub widen_value : Octagon → Octagon → Octagon
widen_value a b = record { dims = a.dims; matrix = on_either widen_matrix a.matrix b.matrix }

-- narrowing: the right entry where the left one is none, else the left one; Bottom on either side gives Bottom
abbrev pub narrow_bound : Bound → Bound → Bound
narrow_bound None b = b
narrow_bound (Some x) b = Some x

unfoldable pub narrow_entry : Matrix → Matrix → ℕ → ℕ → Bound
narrow_entry a b i j = narrow_bound (at a i j) (at b i j)

unfoldable pub narrow_matrix : Matrix → Matrix → Matrix
narrow_matrix a b = table (length a) (narrow_entry a b)

unfoldable pub narrow_value : Octagon → Octagon → Octagon
narrow_value a b = record { dims = a.dims; matrix = on_both narrow_matrix a.matrix b.matrix }
