-- Two values that aren't Bottom, and a partition over which they are combined.
use Rattle.std.specs.Prelude.{◌≡◌, ℕ, ◌<◌, ◌⊎◌, IsSome, Option, Some, None, List, []}
use Rattle.block_partition.specs.Partition.{IsPartition, SameBlock}
use Rattle.block_laws.specs.Assembly.{IsSeparated}
use Rattle.block_laws.specs.Components.{IsComponents}
use Rattle.dec_oct.specs.Value.{Blocks, blocks_of, Decomposed, whole}
use Rattle.dec_lattice.specs.declared.operation.Operation.{Operation}
use Rattle.dec_lattice.specs.Operation.{combined_matrix}

-- the blocks of a value that isn't Bottom
abbrev pub held_of : Option Blocks → Blocks
held_of None = blocks_of [] [] []
held_of (Some b) = b

abbrev pub held : Decomposed → Blocks
held v = held_of v.blocks

-- two values over as many variables, neither of them Bottom
pub record AreSides (a b : Decomposed) : Type 0 where
  pub dims : a.dims ≡ b.dims
  pub first : IsSome a.blocks
  pub second : IsSome b.blocks

-- a partition that keeps apart what no entry of the combined matrix joins. Two variables that share a block do so in both
-- sides, or are linked in the combined matrix
pub record IsOver (op : Operation) (n : ℕ) (a b : Blocks) (ds : List (List ℕ)) : Type 0 where
  pub partition : IsPartition n ds
  pub apart : IsSeparated n ds (combined_matrix op (whole n a) (whole n b))
  pub close : (rs : List (List ℕ)) → IsComponents n rs (combined_matrix op (whole n a) (whole n b)) → (u w : ℕ) → u < n → w < n → SameBlock ds u w
      → (SameBlock a.partition u w × SameBlock b.partition u w) ⊎ SameBlock rs u w
