-- What a bound that is given for a point asks of it, and what it leaves.
use Rattle.std.specs.Prelude.{◌≡◌, ◌≢◌, ◌-◌, ◌<◌, Option, Some, None, List, length, slice_set}
use Rattle.std.specs.Option.{option_map}
use Rattle.oct_def.specs.Bound.{InRange, IsEven}
use Rattle.oct_def.specs.Table.{Matrix, at}
use Rattle.oct_def.specs.Matrix.{opposite}
use Rattle.placed_bounds.specs.Bounded.{bounded_matrix}
use Rattle.inv_text.specs.declared.bound.InvBound.{InvBound}
use Rattle.inv_text.specs.Invariants.{matrix_in}
use Rattle.inv_text.specs.Listed.{placed_at}

-- the place is in range, off the diagonal and without a bound; the word is within the limits, and even at a unary place
pub record TakesBound (m : Matrix) (b : InvBound) : Type 0 where
  pub row : b.row < length m
  pub column : b.column < length m
  pub off_diagonal : b.row ≢ b.column
  pub free : at m b.row b.column ≡ None
  pub in_range : InRange (Some b.word)
  pub even : b.column ≡ opposite b.row → IsEven (Some b.word)

-- the bound at its place and at the coherent place
abbrev pub with_bound : Matrix → InvBound → Matrix
with_bound m b = bounded_matrix m (placed_at b)

-- what is given for the last point
abbrev pub last_in : List (Option Matrix) → Option Matrix
last_in x = matrix_in x (length x - 1)

-- the bound is put into the matrix of the last point
abbrev pub with_last_bound : List (Option Matrix) → InvBound → List (Option Matrix)
with_last_bound x b = slice_set x (length x - 1) (option_map (λ m. with_bound m b) (last_in x))
