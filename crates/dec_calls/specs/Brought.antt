-- What the exit says of inputs and outputs, as listed bounds.
use Rattle.std.specs.Prelude.{◌≡◌, ℕ, ◌+◌, ◌&&◌, nat_eq, List, None, length, if◌then◌else◌}
use Rattle.std.specs.List.{All}
use Rattle.oct_def.specs.Bound.{Bound, least}
use Rattle.oct_def.specs.Table.{Matrix, table, at}
use Rattle.interval_form.specs.declared.constraints.OctBound.{OctBound}
use Rattle.interval_form.specs.Listed.{IsPlaced}
use Rattle.interval_form.specs.Listing.{listed}
use Rattle.transfer_def.specs.Back.{brought_in_row, brought_entry}

-- a matrix without the bounds on its diagonal
unfoldable pub off_diagonal : Matrix → ℕ → ℕ → Bound
off_diagonal m i j = if nat_eq i j then None else at m i j

unfoldable pub without_diagonal : Matrix → Matrix
without_diagonal m = table (length m) (off_diagonal m)

-- what a bound that stands at (i, j) says at (p, q)
unfoldable pub standing : ℕ → ℕ → Bound → ℕ → ℕ → Bound
standing i j b p q = if nat_eq i p && nat_eq j q then b else None

-- a list with the entries of row i of the exit behind it, without the diagonal
pub record ListsRow (n : ℕ) (args : List ℕ) (outputs : ℕ) (exit : Matrix) (i : ℕ) (old new : List OctBound) : Type 0 where
  pub placed : All (IsPlaced (n + outputs)) old → All (IsPlaced (n + outputs)) new
  pub entries : (p q : ℕ) → listed new p q ≡ least (listed old p q) (brought_in_row n args outputs (without_diagonal exit) p q i)

-- the entries of the exit between inputs and outputs, without the diagonal, each at the places where these stand
pub record AreBrought (n : ℕ) (args : List ℕ) (outputs : ℕ) (exit : Matrix) (bounds : List OctBound) : Type 0 where
  pub placed : All (IsPlaced (n + outputs)) bounds
  pub entries : (p q : ℕ) → listed bounds p q ≡ brought_entry n args outputs (without_diagonal exit) p q
