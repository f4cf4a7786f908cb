-- How many variables there are at most.
use Rattle.std.specs.Prelude.{ℕ}

-- the variables of a value
abbrev pub most_dims : ℕ
most_dims = 256

-- the variables of a matrix, those that an operation adds to a value's included
abbrev pub most_matrix_dims : ℕ
most_matrix_dims = 512

-- the variables that a return adds, one for each output
abbrev pub most_outputs : ℕ
most_outputs = 128
