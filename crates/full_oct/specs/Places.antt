-- Signed dimensions in a list, one for each place.
use Rattle.std.specs.Prelude.{◌≡◌, ℕ, ◌*◌, ◌<◌, List, length, slice_index_or}
use Rattle.transfer_def.specs.Dimensions.{moved_dimension}

-- the signed dimensions that take the places of those of n variables
pub record AreMoved (n : ℕ) (targets places : List ℕ) : Type 0 where
  pub size : length places ≡ 2 * n
  pub each : (i : ℕ) → i < 2 * n → slice_index_or places i 0 ≡ moved_dimension n targets i
