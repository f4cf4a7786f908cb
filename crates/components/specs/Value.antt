-- The components of a value.
use Rattle.std.specs.Prelude.{◌≡◌, ℕ, ◌<◌, ◌≤◌, Option, None, Some, List, [], length}
use Rattle.oct_def.specs.Table.{Matrix}
use Rattle.oct_def.specs.Octagon.{Octagon}
use Rattle.block_partition.specs.Partition.{block, IsOrdered}
use Rattle.block_laws.specs.Components.{IsComponents}

-- Bottom has no components
abbrev pub AreComponents : ℕ → Option Matrix → List (List ℕ) → Type 0
AreComponents n None bs = bs ≡ []
AreComponents n (Some m) bs = IsComponents n bs m

-- the blocks are the components of a value, in the order of their least members
pub record AreComponentsOf (v : Octagon) (bs : List (List ℕ)) : Type 0 where
  pub ordered : IsOrdered bs
  pub exact : AreComponents v.dims v.matrix bs

-- the greatest number of members of a block, 0 where there is none
pub record IsGreatestSize (bs : List (List ℕ)) (size : ℕ) : Type 0 where
  pub above : (b : ℕ) → b < length bs → length (block bs b) ≤ size
  pub attained : 0 < size → (b : ℕ) × (b < length bs) × (length (block bs b) ≡ size)
