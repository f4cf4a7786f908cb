-- Parts of which a value is made.
use Rattle.std.specs.Prelude.{◌≡◌, ℕ, ◌*◌, ◌<◌, true, Option, Some, None, length, pos}
use Rattle.oct_def.specs.Bound.{InRange, IsEven, at_most}
use Rattle.oct_def.specs.Table.{at}
use Rattle.oct_def.specs.Matrix.{opposite}
use Rattle.block_partition.specs.Partition.{block, IsPartition}
use Rattle.block_laws.specs.Assembly.{matrix}
use Rattle.dec_oct.specs.Value.{Blocks, marked, IsSettled}

-- blocks of variables below n, each with a matrix of its size and a mark, which is true only where the tight closure gives
-- the matrix again
pub record IsGiven (n : ℕ) (b : Blocks) : Type 0 where
  pub partition : IsPartition n b.partition
  pub count : length b.matrices ≡ length b.partition
  pub size : (c : ℕ) → c < length b.partition → length (matrix b.matrices c) ≡ 2 * length (block b.partition c)
  pub in_range : (c : ℕ) → c < length b.partition → (i j : ℕ) → InRange (at (matrix b.matrices c) i j)
  pub marks : length b.marks ≡ length b.partition
  pub settled : IsSettled b.matrices b.marks

-- parts with 0 on the diagonals and even unary entries
pub record IsEvenGiven (n : ℕ) (b : Blocks) : Type 0 where
  pub given : IsGiven n b
  pub diagonal : (c : ℕ) → c < length b.partition → (i : ℕ) → i < length (matrix b.matrices c) → at (matrix b.matrices c) i i ≡ Some (pos 0)
  pub even : (c : ℕ) → c < length b.partition → (i : ℕ) → IsEven (at (matrix b.matrices c) i (opposite i))

-- parts with diagonals of at most 0, whose unary entries may be any
pub record IsLooseGiven (n : ℕ) (b : Blocks) : Type 0 where
  pub given : IsGiven n b
  pub diagonal : (c : ℕ) → c < length b.partition → (i : ℕ) → i < length (matrix b.matrices c) → at_most (at (matrix b.matrices c) i i) (Some (pos 0)) ≡ true

-- a mark of a part is kept where the part is a block of the result
pub record KeepsMarks (a b : Blocks) : Type 0 where
  pub kept : (p c : ℕ) → p < length a.partition → c < length b.partition → block a.partition p ≡ block b.partition c → marked a.marks p ≡ true → marked b.marks c ≡ true

abbrev pub KeepsMarksOf : Blocks → Option Blocks → Type 0
KeepsMarksOf a None = Unit {0}
KeepsMarksOf a (Some b) = KeepsMarks a b
