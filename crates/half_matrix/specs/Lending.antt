-- A row that is lent to be written.
use Rattle.std.specs.Prelude.{◌≡◌, ℕ, ◌+◌, ◌-◌, ◌<◌, ◌&&◌, ◌||◌, Bool, nat_eq, nat_le, nat_lt, List, length, ℤ, pos, slice_index_or, if◌then◌else◌}
use Rattle.std.specs.Borrow.{Lends, MutBor, Fml, Array, i64}
use Rattle.oct_def.specs.Bound.{Bound, bound_of}
use Rattle.oct_def.specs.Table.{Matrix, table, at}
use Rattle.oct_def.specs.Matrix.{opposite}
use Rattle.half_matrix.specs.Place.{start, place, row_length}
use Rattle.half_matrix.specs.contracts.buf.HalfBuf.{the_row}

-- the entry (r, c) once the words w stand from where row i begins
unfoldable pub written_entry : Matrix → ℕ → List ℤ → ℕ → ℕ → Bound
written_entry m i w r c = if nat_le (start i) (place r c) && nat_lt (place r c) (start i + length w) then bound_of (slice_index_or w (place r c - start i) (pos 0)) else at m r c

unfoldable pub with_row : Matrix → ℕ → List ℤ → Matrix
with_row m i w = table (length m) (written_entry m i w)

-- the same by rows and columns: the word in column c at (i, c) and at its twin, for the columns up to the opposite of i
unfoldable pub row_entry : Matrix → ℕ → List ℤ → ℕ → ℕ → Bound
row_entry m i w r c = if nat_eq r i && nat_le c (opposite i) then bound_of (slice_index_or w c (pos 0)) else (if nat_eq (opposite c) i && nat_le (opposite r) (opposite i) then bound_of (slice_index_or w (opposite r) (pos 0)) else at m r c)

-- what is written where row i is lent stands at (i, c) and at its twin, but for the last word of an odd row; all else is
-- as it was
abbrev pub RowIsWritten : Type 0
RowIsWritten = (i : ℕ) (m : Matrix) (w : List ℤ) → length w ≡ row_length i → with_row m i w ≡ table (length m) (row_entry m i w)

-- a buffer holds row k
pub record IsRowOf (m : Matrix) (k : ℕ) (buf : List ℤ) : Type 0 where
  pub size : length buf ≡ length m
  pub words : (j : ℕ) → j < length m → bound_of (slice_index_or buf j (pos 0)) ≡ at m k j

abbrev pub LendsRow : MutBor Matrix → ℕ → MutBor (List ℤ) → Fml
LendsRow s i r = Lends the_row (Array i64 0) s r (with_row s.now i)

-- (r, c) is the entry (i, j) or its coherent twin
abbrev pub same_entry : ℕ → ℕ → ℕ → ℕ → Bool
same_entry i j r c = (nat_eq r i && nat_eq c j) || (nat_eq r (opposite j) && nat_eq c (opposite i))

-- the matrix with one bound at (i, j) and at its twin, and no other changed
unfoldable pub set_entry : Matrix → ℕ → ℕ → Bound → ℕ → ℕ → Bound
set_entry m i j b r c = if same_entry i j r c then b else at m r c

unfoldable pub with_entry : Matrix → ℕ → ℕ → Bound → Matrix
with_entry m i j b = table (length m) (set_entry m i j b)
