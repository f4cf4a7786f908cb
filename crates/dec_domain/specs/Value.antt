-- The values of the domain.
use Rattle.std.specs.Prelude.{ℕ, ◌≤◌}
use Rattle.oct_def.specs.Limits.{most_dims}
use Rattle.oct_def.specs.Octagon.{Octagon, IsOctagon}

-- at most as many variables as a domain's values have, and a value of the definitions
pub record IsKept (v : Octagon) : Type 0 where
  pub small : v.dims ≤ most_dims
  pub value : IsOctagon v
