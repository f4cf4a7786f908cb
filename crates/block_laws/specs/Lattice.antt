-- Join, widening and narrowing block by block.
use Rattle.std.specs.Prelude.{◌≡◌, ℕ, ◌*◌, ◌<◌, List, length}
use Rattle.oct_def.specs.Table.{Matrix}
use Rattle.oct_def.specs.Octagon.{join_matrix, widen_matrix, narrow_matrix}
use Rattle.block_partition.specs.Partition.{IsBlock, SameBlock}
use Rattle.block_laws.specs.Assembly.{IsSeparated, restrict}
use Rattle.block_laws.specs.Components.{IsZeroDiagonal}

-- what two variables share in both partitions is shared in the meet
pub record IsMeet (n : ℕ) (bs cs ds : List (List ℕ)) : Type 0 where
  pub shared : (u w : ℕ) → u < n → w < n → SameBlock bs u w → SameBlock cs u w → SameBlock ds u w

-- each block of the first is inside one of the second
pub record IsFiner (n : ℕ) (bs cs : List (List ℕ)) : Type 0 where
  pub kept : (u w : ℕ) → u < n → w < n → SameBlock bs u w → SameBlock cs u w

-- entries can only be lost in a join: what both partitions separate is separated by their meet
abbrev pub JoinInBlocks : Type 0
JoinInBlocks = (n : ℕ) (bs cs ds : List (List ℕ)) (a b : Matrix) → length a ≡ 2 * n → IsSeparated n bs a → IsSeparated n cs b → IsZeroDiagonal n a → IsZeroDiagonal n b → IsMeet n bs cs ds → IsSeparated n ds (join_matrix a b)

-- the part of a join is the join of the parts
abbrev pub JoinOfParts : Type 0
JoinOfParts = (n : ℕ) (vs : List ℕ) (a b : Matrix) → length a ≡ 2 * n → IsBlock n vs → restrict vs (join_matrix a b) ≡ join_matrix (restrict vs a) (restrict vs b)

-- a widening keeps the blocks of its left side apart
abbrev pub WideningInBlocks : Type 0
WideningInBlocks = (n : ℕ) (bs : List (List ℕ)) (a b : Matrix) → length a ≡ 2 * n → IsSeparated n bs a → IsZeroDiagonal n a → IsZeroDiagonal n b → IsSeparated n bs (widen_matrix a b)

-- the part of a widening is the widening of the parts
abbrev pub WideningOfParts : Type 0
WideningOfParts = (n : ℕ) (vs : List ℕ) (a b : Matrix) → length a ≡ 2 * n → IsBlock n vs → restrict vs (widen_matrix a b) ≡ widen_matrix (restrict vs a) (restrict vs b)

-- a narrowing keeps blocks apart that hold whole blocks of both sides
abbrev pub NarrowingInBlocks : Type 0
NarrowingInBlocks = (n : ℕ) (bs cs ds : List (List ℕ)) (a b : Matrix) → length a ≡ 2 * n → IsSeparated n bs a → IsSeparated n cs b → IsFiner n bs ds → IsFiner n cs ds → IsSeparated n ds (narrow_matrix a b)

-- the part of a narrowing is the narrowing of the parts
abbrev pub NarrowingOfParts : Type 0
NarrowingOfParts = (n : ℕ) (vs : List ℕ) (a b : Matrix) → length a ≡ 2 * n → IsBlock n vs → restrict vs (narrow_matrix a b) ≡ narrow_matrix (restrict vs a) (restrict vs b)
