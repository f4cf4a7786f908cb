-- One step of the closure by pivots on a table of bits. It serves the proofs alone.
use Rattle.std.specs.Prelude.{◌≡◌, ℕ, ◌<◌, Bool, false, ◌&&◌, ◌||◌, List, [], length, map, slice_index_or}
use Rattle.std.specs.List.{range_with_len}
use Rattle.call_graph.specs.Tables.{bit_at}

-- p comes to q, or to k from where one comes to q
abbrev pub bit_over : List Bool → List Bool → Bool → ℕ → Bool
bit_over row pivot by q = slice_index_or row q false || (by && slice_index_or pivot q false)

abbrev pub row_over : List (List Bool) → ℕ → ℕ → List Bool
row_over m k p = map (bit_over (slice_index_or m p []) (slice_index_or m k []) (bit_at m p k)) (range_with_len 0 (length m))

unfoldable pub step_bits : ℕ → List (List Bool) → List (List Bool)
step_bits k m = map (row_over m k) (range_with_len 0 (length m))

-- as many bits in each row as there are rows
abbrev pub IsSquare : List (List Bool) → Type 0
IsSquare m = (p : ℕ) → p < length m → length (slice_index_or m p []) ≡ length m
