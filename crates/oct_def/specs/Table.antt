-- Tables of bounds: lists of rows that a function of two indices gives, and the entry at two indices.
use Rattle.std.specs.Prelude.{ℕ, zero, suc, Bool, false, ◌||◌, List, [], map, None, slice_index_or}
use Rattle.std.specs.List.{range_with_len}
use Rattle.oct_def.specs.Bound.{Bound}

-- a list of rows of bounds
abbrev pub Matrix : Type 0
Matrix = List (List Bound)

-- the row of n entries that a function gives
abbrev pub row_of : ℕ → (ℕ → Bound) → List Bound
row_of n f = map f (range_with_len 0 n)

-- the n rows of n entries that a function gives
unfoldable pub table : ℕ → (ℕ → ℕ → Bound) → Matrix
table n f = map (λ i. row_of n (f i)) (range_with_len 0 n)

-- the entry in row i and column j; outside the rows there is no bound
unfoldable pub at : Matrix → ℕ → ℕ → Bound
at m i j = slice_index_or (slice_index_or m i []) j None

-- some index below n passes the test
unfoldable pub some_index : ℕ → (ℕ → Bool) → Bool
some_index zero test = false
some_index (suc n) test = test n || some_index n test
