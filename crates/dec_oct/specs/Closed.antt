-- What the second part of a closing gives.
use Rattle.std.specs.Prelude.{◌≡◌, ℕ, ◌+◌, ◌<◌, ◌≤◌, Bool, true, List, length, Option, Some, None}
use Rattle.oct_def.specs.Table.{Matrix}
use Rattle.oct_def.specs.Tight.{tight}
use Rattle.dec_oct.specs.Value.{Blocks, whole, marked, IsSettled}
use Rattle.dec_oct.specs.Cost.{IsSecondCost, TellsAgain}

-- blocks that are the tight closure of others, and the count of the second closings
pub record IsClosedBlocks (n : ℕ) (a b : Blocks) (old new : ℕ) : Type 0 where
  pub closed : tight (whole n a) ≡ Some (whole n b)
  pub again : TellsAgain b.matrices b.marks
  pub second : ℕ
  pub cost : IsSecondCost a b second
  pub bound : new ≤ old + second

-- marks of closed blocks: true ones, and each mark of the block before is kept
pub record AreSure (marks : List Bool) (ns : List Matrix) (sure : List Bool) : Type 0 where
  pub size : length sure ≡ length ns
  pub settled : IsSettled ns sure
  pub kept : (b : ℕ) → b < length ns → marked marks b ≡ true → marked sure b ≡ true

abbrev pub IsClosedValue : ℕ → Blocks → Option Blocks → ℕ → ℕ → Type 0
IsClosedValue n a None old new = ⊥
IsClosedValue n a (Some b) old new = IsClosedBlocks n a b old new
