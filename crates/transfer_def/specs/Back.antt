-- A return: the value after the call.
use Rattle.std.specs.Prelude.{ℕ, zero, suc, ◌+◌, ◌-◌, ◌*◌, ◌/◌, ◌%◌, ◌&&◌, nat_eq, nat_lt, List, length, slice_index_or, None, if◌then◌else◌}
use Rattle.std.specs.Option.{option_map, option_and_then}
use Rattle.oct_def.specs.Bound.{Bound, least}
use Rattle.oct_def.specs.Table.{Matrix, table, at}
use Rattle.oct_def.specs.Tight.{tight}
use Rattle.oct_def.specs.Octagon.{Octagon, on_both, least_matrix}
use Rattle.transfer_def.specs.Dimensions.{extended, moved}

-- the least of f 0 to f (n - 1)
unfoldable pub least_below : ℕ → (ℕ → Bound) → Bound
least_below zero f = None
least_below (suc n) f = least (f n) (least_below n f)

-- where a variable of the exit stands beside the caller's n variables: an input at its argument, an output, which follow the
-- inputs, at its added variable
unfoldable pub joined_variable : ℕ → List ℕ → ℕ → ℕ
joined_variable n args v = if nat_lt v (length args) then slice_index_or args v 0 else n + (v - length args)

-- the same of signed dimensions
unfoldable pub joined_dimension : ℕ → List ℕ → ℕ → ℕ
joined_dimension n args i = 2 * joined_variable n args (i / 2) + i % 2

-- the exit's entry (i, j), if i and j stand at p and q
unfoldable pub brought_from : ℕ → List ℕ → Matrix → ℕ → ℕ → ℕ → ℕ → Bound
brought_from n args exit p q i j =
    if nat_eq (joined_dimension n args i) p && nat_eq (joined_dimension n args j) q then at exit i j else None

unfoldable pub brought_in_row : ℕ → List ℕ → ℕ → Matrix → ℕ → ℕ → ℕ → Bound
brought_in_row n args outputs exit p q i = least_below (2 * (length args + outputs)) (brought_from n args exit p q i)

-- the least of the exit's entries between inputs and outputs that stand at p and q: several, where arguments repeat
unfoldable pub brought_entry : ℕ → List ℕ → ℕ → Matrix → ℕ → ℕ → Bound
brought_entry n args outputs exit p q = least_below (2 * (length args + outputs)) (brought_in_row n args outputs exit p q)

unfoldable pub brought : ℕ → List ℕ → ℕ → Matrix → Matrix
brought n args outputs exit = table (2 * (n + outputs)) (brought_entry n args outputs exit)

-- the caller's matrix with a variable added for each output, and by minimum what the exit says
unfoldable pub joined : ℕ → List ℕ → ℕ → Matrix → Matrix → Matrix
joined n args outputs caller exit = least_matrix (extended n outputs caller) (brought n args outputs exit)

-- the value after the call: closed, with each added variable in the place of its target
unfoldable pub back_value : Octagon → Octagon → List ℕ → ℕ → List ℕ → Octagon
back_value caller exit args outputs targets = record {
  dims = caller.dims;
  matrix = option_map (moved caller.dims targets)
      (option_and_then tight (on_both (joined caller.dims args outputs) caller.matrix exit.matrix));
}
