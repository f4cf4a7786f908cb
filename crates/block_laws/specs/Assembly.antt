-- The matrix over all variables that the matrices of blocks make, and its parts.
use Rattle.std.specs.Prelude.{◌≡◌, ℕ, ◌+◌, ◌*◌, ◌/◌, ◌%◌, ◌<◌, nat_eq, nat_lt, Bool, false, ◌&&◌, map, List, [], length, None, if◌then◌else◌, slice_index_or}
use Rattle.oct_def.specs.Bound.{Bound}
use Rattle.oct_def.specs.Table.{Matrix, table, at}
use Rattle.oct_def.specs.Matrix.{IsSquare}
use Rattle.oct_def.specs.Octagon.{top_entry}
use Rattle.block_partition.specs.Partition.{member, place, IsIn, block, home, IsBlock, IsPartition}

-- the signed dimension of a block's matrix as one of all variables, and back
unfoldable pub outer : List ℕ → ℕ → ℕ
outer vs i = 2 * member vs (i / 2) + i % 2

unfoldable pub inner : List ℕ → ℕ → ℕ
inner vs i = 2 * place vs (i / 2) + i % 2

-- the part of a matrix over the variables of a block
unfoldable pub restrict_entry : List ℕ → Matrix → ℕ → ℕ → Bound
restrict_entry vs m i j = at m (outer vs i) (outer vs j)

unfoldable pub restrict : List ℕ → Matrix → Matrix
restrict vs m = table (2 * length vs) (restrict_entry vs m)

-- the matrix of a block
abbrev pub matrix : List Matrix → ℕ → Matrix
matrix ms b = slice_index_or ms b []

-- two signed dimensions are of one block
unfoldable pub is_joint : List (List ℕ) → ℕ → ℕ → Bool
is_joint bs i j = nat_eq (home bs (i / 2)) (home bs (j / 2)) && nat_lt (home bs (i / 2)) (length bs)

-- the entry of two dimensions of one block is the block's; elsewhere there is 0 on the diagonal and no bound
unfoldable pub block_entry : List (List ℕ) → List Matrix → ℕ → ℕ → ℕ → Bound
block_entry bs ms b i j = at (matrix ms b) (inner (block bs b) i) (inner (block bs b) j)

unfoldable pub assembly_entry : List (List ℕ) → List Matrix → ℕ → ℕ → Bound
assembly_entry bs ms i j = if is_joint bs i j then block_entry bs ms (home bs (i / 2)) i j else top_entry i j

-- the matrix over n variables that the blocks' matrices make
unfoldable pub assembly : ℕ → List (List ℕ) → List Matrix → Matrix
assembly n bs ms = table (2 * n) (assembly_entry bs ms)

-- a matrix for each block, of its size
pub record IsParts (n : ℕ) (bs : List (List ℕ)) (ms : List Matrix) : Type 0 where
  pub partition : IsPartition n bs
  pub count : length ms ≡ length bs
  pub square : (b : ℕ) → b < length bs → IsSquare (matrix ms b)
  pub size : (b : ℕ) → b < length bs → length (matrix ms b) ≡ 2 * length (block bs b)

-- no entry joins a variable of the block to another one
pub record IsCutOff (vs : List ℕ) (m : Matrix) : Type 0 where
  pub out : (i j : ℕ) → i < length m → j < length m → IsIn vs (i / 2) → (IsIn vs (j / 2) → ⊥) → at m i j ≡ None
  pub back : (i j : ℕ) → i < length m → j < length m → IsIn vs (i / 2) → (IsIn vs (j / 2) → ⊥) → at m j i ≡ None

-- entries that aren't of one block are those of top
pub record IsSeparated (n : ℕ) (bs : List (List ℕ)) (m : Matrix) : Type 0 where
  pub apart : (i j : ℕ) → i < 2 * n → j < 2 * n → is_joint bs i j ≡ false → at m i j ≡ top_entry i j

-- the part of a matrix over one block, the block last
unfoldable pub part : Matrix → List ℕ → Matrix
part m vs = restrict vs m

-- the parts of a matrix over the blocks
unfoldable pub parts : List (List ℕ) → Matrix → List Matrix
parts bs m = map (part m) bs

-- the part of an assembly over a block is the block's matrix; a separated matrix is the assembly of its parts
abbrev pub PartOfAssembly : Type 0
PartOfAssembly = (n : ℕ) (bs : List (List ℕ)) (ms : List Matrix) (b : ℕ) → IsParts n bs ms → b < length bs → restrict (block bs b) (assembly n bs ms) ≡ matrix ms b

abbrev pub AssemblyOfParts : Type 0
AssemblyOfParts = (n : ℕ) (bs : List (List ℕ)) (m : Matrix) → IsPartition n bs → IsSquare m → length m ≡ 2 * n → IsSeparated n bs m → m ≡ assembly n bs (parts bs m)

-- the part over some places of a block
abbrev pub PartOfPart : Type 0
PartOfPart = (k : ℕ) (vs ls : List ℕ) (m : Matrix) → IsBlock (length vs) ls → restrict ls (restrict vs m) ≡ restrict (map (member vs) ls) m
