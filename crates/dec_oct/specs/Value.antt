-- Decomposed values: Bottom, or the components of a value with a matrix and a mark for each.
use Rattle.std.specs.Prelude.{◌≡◌, ℕ, ◌<◌, ◌≤◌, Bool, true, false, Option, Some, None, List, length, slice_index_or}
use Rattle.std.specs.Option.{option_map}
use Rattle.oct_def.specs.Table.{Matrix}
use Rattle.oct_def.specs.Matrix.{IsEvenMatrix}
use Rattle.oct_def.specs.Octagon.{Octagon}
use Rattle.oct_def.specs.Tight.{tight}
use Rattle.block_partition.specs.Partition.{IsOrdered}
use Rattle.block_laws.specs.Assembly.{matrix, assembly, IsParts}
use Rattle.block_laws.specs.Components.{IsComponents}

-- blocks with a matrix and a mark for each
pub record Blocks : Type 0 where
  pub partition : List (List ℕ)
  pub matrices : List Matrix
  pub marks : List Bool

-- Bottom over so many variables, or blocks
pub record Decomposed : Type 0 where
  pub dims : ℕ
  pub blocks : Option Blocks

abbrev pub blocks_of : List (List ℕ) → List Matrix → List Bool → Blocks
blocks_of bs ms marks = record { partition = bs; matrices = ms; marks = marks }

abbrev pub decomposed : ℕ → Option Blocks → Decomposed
decomposed n b = record { dims = n; blocks = b }

-- the whole matrix that blocks make
abbrev pub whole : ℕ → Blocks → Matrix
whole n b = assembly n b.partition b.matrices

-- the value with a matrix, or Bottom
abbrev pub octagon_of : ℕ → Option Matrix → Octagon
octagon_of n m = record { dims = n; matrix = m }

-- the value that is meant
abbrev pub octagon : Decomposed → Octagon
octagon v = record { dims = v.dims; matrix = option_map (whole v.dims) v.blocks }

-- the mark of a block
abbrev pub marked : List Bool → ℕ → Bool
marked marks b = slice_index_or marks b false

-- a mark is true only where the tight closure gives the block's matrix again
pub record IsSettled (ms : List Matrix) (marks : List Bool) : Type 0 where
  pub again : (b : ℕ) → b < length ms → marked marks b ≡ true → tight (matrix ms b) ≡ Some (matrix ms b)

-- blocks that are exactly the components of a value, in order, with true marks
pub record IsDecomposition (n : ℕ) (b : Blocks) : Type 0 where
  pub parts : IsParts n b.partition b.matrices
  pub ordered : IsOrdered b.partition
  pub components : IsComponents n b.partition (whole n b)
  pub value : IsEvenMatrix n (whole n b)
  pub marks : length b.marks ≡ length b.partition
  pub settled : IsSettled b.matrices b.marks

abbrev pub IsKeptBlocks : ℕ → Option Blocks → Type 0
IsKeptBlocks n None = Unit {0}
IsKeptBlocks n (Some b) = IsDecomposition n b

-- what the type keeps
pub record IsKept (v : Decomposed) : Type 0 where
  pub small : v.dims ≤ 512
  pub blocks : IsKeptBlocks v.dims v.blocks
