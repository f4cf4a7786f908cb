-- What a full matrix of words stands for.
use Rattle.std.specs.Prelude.{◌≡◌, ℕ, ◌+◌, ◌*◌, ◌%◌, ◌<◌, ◌≤◌, ◌&&◌, nat_eq, List, length, ℤ, pos, slice_index_or, if◌then◌else◌}
use Rattle.oct_def.specs.Bound.{Bound, bound_of, least}
use Rattle.oct_def.specs.Table.{Matrix, table, at}

-- the bound at (i, j), in rows of so many words that follow each other
unfoldable pub word_entry : ℕ → List ℤ → ℕ → ℕ → Bound
word_entry size words i j = bound_of (slice_index_or words (i * size + j) (pos 0))

-- the matrix of all words
unfoldable pub matrix_of : ℕ → List ℤ → Matrix
matrix_of size words = table size (word_entry size words)

-- a word for each place, two rows for each variable, and at most 512 variables
pub record IsFull (size : ℕ) (words : List ℤ) : Type 0 where
  pub even : size % 2 ≡ 0
  pub small : size ≤ 1024
  pub filled : length words ≡ size * size

-- the matrix with one bound at (i, j), and no other entry changed
unfoldable pub replaced_entry : Matrix → ℕ → ℕ → Bound → ℕ → ℕ → Bound
replaced_entry m i j b r c = if nat_eq r i && nat_eq c j then b else at m r c

unfoldable pub replaced : Matrix → ℕ → ℕ → Bound → Matrix
replaced m i j b = table (length m) (replaced_entry m i j b)

-- the matrix with one bound more at (i, j), taken by minimum
unfoldable pub lowered : Matrix → ℕ → ℕ → Bound → Matrix
lowered m i j b = replaced m i j (least (at m i j) b)

-- words are those of row i
pub record RowIs (m : Matrix) (i : ℕ) (words : List ℤ) : Type 0 where
  pub size : length words ≡ length m
  pub bounds : (j : ℕ) → j < length m → bound_of (slice_index_or words j (pos 0)) ≡ at m i j
