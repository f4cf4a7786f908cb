-- The components of a matrix: classes of variables that finite entries off the diagonal join, one after the other.
use Rattle.std.specs.Prelude.{◌≡◌, ℕ, ◌*◌, ◌/◌, ◌<◌, ◌⊎◌, ◌↔◌, Some, None, List, length, pos}
use Rattle.oct_def.specs.Table.{Matrix, at}
use Rattle.oct_def.specs.Matrix.{opposite}
use Rattle.block_partition.specs.Partition.{place, block, IsIn, SameBlock, IsPartition}
use Rattle.block_laws.specs.Assembly.{matrix, IsParts, IsSeparated, assembly}

-- a finite entry off the diagonal joins the two variables; a unary one joins a variable to itself
pub record Joins (m : Matrix) (u w : ℕ) : Type 0 where
  pub row : ℕ
  pub column : ℕ
  pub row_in : row < length m
  pub column_in : column < length m
  pub row_is : row / 2 ≡ u
  pub column_is : column / 2 ≡ w
  pub apart : row ≡ column → ⊥
  pub finite : at m row column ≡ None → ⊥

-- chains of one entry or more
pub data Linked (m : Matrix) : ℕ → ℕ → Type 0 where
  One : (u w : ℕ) → Joins m u w → Linked m u w
  More : (u v w : ℕ) → Linked m u v → Linked m v w → Linked m u w

-- the blocks are the components
pub record IsComponents (n : ℕ) (bs : List (List ℕ)) (m : Matrix) : Type 0 where
  pub partition : IsPartition n bs
  pub exact : (u w : ℕ) → u < n → w < n → SameBlock bs u w ↔ Linked m u w

-- a variable with a finite unary entry
pub record HasBound (m : Matrix) (v : ℕ) : Type 0 where
  pub side : ℕ
  pub side_in : side < length m
  pub side_is : side / 2 ≡ v
  pub finite : at m side (opposite side) ≡ None → ⊥

-- a variable whose block has a variable that has a bound
abbrev pub IsTouched : List (List ℕ) → Matrix → ℕ → Type 0
IsTouched bs m u = (x : ℕ) × (x < length m / 2) × SameBlock bs u x × HasBound m x

-- the blocks of variables that have a bound became one block; the others stay
pub record IsMerged (n : ℕ) (bs : List (List ℕ)) (cs : List (List ℕ)) (m : Matrix) : Type 0 where
  pub partition : IsPartition n cs
  pub exact : (u w : ℕ) → u < n → w < n → SameBlock cs u w ↔ (SameBlock bs u w ⊎ (IsTouched bs m u × IsTouched bs m w))

-- 0 on the diagonal
pub record IsZeroDiagonal (n : ℕ) (m : Matrix) : Type 0 where
  pub zero : (i : ℕ) → i < 2 * n → at m i i ≡ Some (pos 0)

-- the components of a matrix separate it
abbrev pub ComponentsSeparate : Type 0
ComponentsSeparate = (n : ℕ) (bs : List (List ℕ)) (m : Matrix) → length m ≡ 2 * n → IsZeroDiagonal n m → IsComponents n bs m → IsSeparated n bs m

-- chains in an assembly are chains in a block
abbrev pub LinksInBlock : Type 0
LinksInBlock = (n : ℕ) (bs : List (List ℕ)) (ms : List Matrix) (b u w : ℕ) → IsParts n bs ms → b < length bs → IsIn (block bs b) u
    → Linked (assembly n bs ms) u w ↔ (IsIn (block bs b) w × Linked (matrix ms b) (place (block bs b) u) (place (block bs b) w))
