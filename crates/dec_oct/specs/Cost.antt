-- What closing costs.
use Rattle.std.specs.Prelude.{◌≡◌, ℕ, zero, suc, ◌+◌, ◌*◌, ◌/◌, ◌<◌, ◌≤◌, ◌↔◌, Bool, true, List, length, Option, Some, None, if◌then◌else◌}
use Rattle.oct_def.specs.Table.{Matrix}
use Rattle.oct_def.specs.Tight.{tight}
use Rattle.block_partition.specs.Partition.{block}
use Rattle.block_laws.specs.Assembly.{matrix}
use Rattle.dec_oct.specs.Value.{Blocks, marked}

-- the rows that closing a block relaxes: 2k^2 for k variables
abbrev pub cost : Matrix → ℕ
cost m = 2 * (length m / 2) * (length m / 2)

-- the cost of the unmarked ones of the first k blocks
unfoldable pub cost_below : List Matrix → List Bool → ℕ → ℕ
cost_below ms marks zero = 0
cost_below ms marks (suc b) = cost_below ms marks b + (if marked marks b then 0 else cost (matrix ms b))

-- the cost of all unmarked blocks
abbrev pub unmarked_cost : List Matrix → List Bool → ℕ
unmarked_cost ms marks = cost_below ms marks (length ms)

-- a block with its matrix is a marked block of some blocks
pub record IsMarkedBlock (b : Blocks) (vs : List ℕ) (m : Matrix) : Type 0 where
  pub place : ℕ
  pub within : place < length b.partition
  pub members : block b.partition place ≡ vs
  pub words : matrix b.matrices place ≡ m
  pub mark : marked b.marks place ≡ true

-- which of some blocks are marked blocks of others
pub record TellsMarks (a : Blocks) (bs : List (List ℕ)) (ms : List Matrix) (known : List Bool) : Type 0 where
  pub size : length known ≡ length bs
  pub exact : (c : ℕ) → c < length bs → (marked known c ≡ true) ↔ IsMarkedBlock a (block bs c) (matrix ms c)

-- the cost of the blocks that are no marked blocks of others
pub record IsSecondCost (a b : Blocks) (cost : ℕ) : Type 0 where
  pub known : List Bool
  pub told : TellsMarks a b.partition b.matrices known
  pub sum : cost ≡ unmarked_cost b.matrices known

-- a count rises by at most the cost of all unmarked blocks of the argument and that of the blocks of the result that are
-- no marked blocks of the argument
pub record IsBoundedCount (a b : Blocks) (old new : ℕ) : Type 0 where
  pub second : ℕ
  pub cost : IsSecondCost a b second
  pub bound : new ≤ old + unmarked_cost a.matrices a.marks + second

-- the same where the result is Bottom, which has no blocks
abbrev pub CostsAtMost : Blocks → Option Blocks → ℕ → ℕ → Type 0
CostsAtMost a None old new = new ≤ old + unmarked_cost a.matrices a.marks
CostsAtMost a (Some b) old new = IsBoundedCount a b old new

-- the closing of Bottom costs nothing
abbrev pub CostsAtMostOf : Option Blocks → Option Blocks → ℕ → ℕ → Type 0
CostsAtMostOf None r old new = new ≡ old
CostsAtMostOf (Some a) r old new = CostsAtMost a r old new

-- each block is closed, or one of them is empty
abbrev pub ClosesEach : List Matrix → Option (List Matrix) → Type 0
ClosesEach ms None = (b : ℕ) × (b < length ms) × (tight (matrix ms b) ≡ None)
ClosesEach ms (Some ns) = (length ns ≡ length ms) × ((b : ℕ) → b < length ms → tight (matrix ms b) ≡ Some (matrix ns b))

-- a block is marked exactly where its tight closure is its matrix again
pub record TellsAgain (ms : List Matrix) (marks : List Bool) : Type 0 where
  pub size : length marks ≡ length ms
  pub exact : (c : ℕ) → c < length ms → (marked marks c ≡ true) ↔ (tight (matrix ms c) ≡ Some (matrix ms c))

abbrev pub TellsAgainOf : Option Blocks → Type 0
TellsAgainOf None = Unit {0}
TellsAgainOf (Some b) = TellsAgain b.matrices b.marks
