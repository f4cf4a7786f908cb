-- The tight closure of a matrix.
-- The pair step is the closure by pairs of pivots of A. Miné, "The Octagon Abstract Domain", Higher-Order and Symbolic
-- Computation 19 (2006). The evening of the unary bounds, the test of opposite unary bounds and the strengthening are
-- those of R. Bagnara, P. Hill and E. Zaffanella, "An Improved Tight Closure Algorithm for Integer Octagonal
-- Constraints", VMCAI 2008.
use Rattle.std.specs.Prelude.{ℕ, zero, suc, ◌+◌, ◌*◌, ◌/◌, Bool, nat_eq, Option, Some, None, length, if◌then◌else◌}
use Rattle.oct_def.specs.Bound.{Bound, plus, clamped, least, is_negative, half, evened}
use Rattle.oct_def.specs.Table.{Matrix, table, at, some_index}
use Rattle.oct_def.specs.Matrix.{opposite}

-- a path from i over p to j, and one from i over p and then q to j; each sum is clamped once
unfoldable pub path : Matrix → ℕ → ℕ → ℕ → Bound
path m p i j = clamped (plus (at m i p) (at m p j))

unfoldable pub long_path : Matrix → ℕ → ℕ → ℕ → ℕ → Bound
long_path m p q i j = clamped (plus (plus (at m i p) (at m p q)) (at m q j))

-- the least of five bounds
abbrev pub least_of_five : Bound → Bound → Bound → Bound → Bound → Bound
least_of_five a b c d e = least a (least b (least c (least d e)))

-- the entry after the step at the signed dimensions p and q of one variable
unfoldable pub pivot_entry : ℕ → ℕ → Matrix → ℕ → ℕ → Bound
pivot_entry p q m i j = least_of_five (at m i j) (path m p i j) (path m q i j) (long_path m p q i j) (long_path m q p i j)

-- the entry after the step at variable k
unfoldable pub pair_entry : ℕ → Matrix → ℕ → ℕ → Bound
pair_entry k m = pivot_entry (2 * k) (2 * k + 1) m

-- the step at variable k: every entry is read from the old matrix
unfoldable pub pair_step : ℕ → Matrix → Matrix
pair_step k m = table (length m) (pair_entry k m)

-- the steps at the variables from 0 to n - 1
unfoldable pub pair_steps : ℕ → Matrix → Matrix
pair_steps zero m = m
pair_steps (suc n) m = pair_step n (pair_steps n m)

-- the closure: the steps at all variables
unfoldable pub closure : Matrix → Matrix
closure m = pair_steps (length m / 2) m

-- some entry of the diagonal is negative: a cycle of bounds whose sum is below 0
unfoldable pub negative_cycle : Matrix → ℕ → Bool
negative_cycle m i = is_negative (at m i i)

unfoldable pub has_negative_cycle : Matrix → Bool
has_negative_cycle m = some_index (length m) (negative_cycle m)

-- each unary entry becomes even, rounded down
unfoldable pub even_entry : Matrix → ℕ → ℕ → Bound
even_entry m i j = if nat_eq j (opposite i) then evened (at m i j) else at m i j

unfoldable pub evening : Matrix → Matrix
evening m = table (length m) (even_entry m)

-- the two unary entries of some variable have a negative sum
unfoldable pub crossing : Matrix → ℕ → Bool
crossing m i = is_negative (plus (at m i (opposite i)) (at m (opposite i) i))

unfoldable pub has_crossing : Matrix → Bool
has_crossing m = some_index (length m) (crossing m)

-- the entry that the unary entries of two dimensions imply: the sum of their halves
abbrev pub implied_entry : Matrix → ℕ → ℕ → Bound
implied_entry m i j = plus (half (at m i (opposite i))) (half (at m (opposite j) j))

-- each entry becomes at most the implied one
unfoldable pub strong_entry : Matrix → ℕ → ℕ → Bound
strong_entry m i j = least (at m i j) (implied_entry m i j)

unfoldable pub strengthening : Matrix → Matrix
strengthening m = table (length m) (strong_entry m)

-- the end of the tight closure: Bottom where unary entries cross, else strengthened
unfoldable pub tight_even : Matrix → Option Matrix
tight_even m = if has_crossing m then None else Some (strengthening m)

-- what follows the closure: Bottom where a diagonal entry is negative, else the unary entries are evened
unfoldable pub tight_closed : Matrix → Option Matrix
tight_closed m = if has_negative_cycle m then None else tight_even (evening m)

-- the tight closure; None is Bottom
unfoldable pub tight : Matrix → Option Matrix
tight m = tight_closed (closure m)
