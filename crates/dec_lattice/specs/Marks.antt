-- Which blocks are marked after a join, a widening or a narrowing.
use Rattle.std.specs.Prelude.{◌≡◌, ℕ, ◌<◌, ◌⊎◌, ◌↔◌, Bool, true, Option, Some, None, List, length}
use Rattle.oct_def.specs.Table.{Matrix}
use Rattle.block_partition.specs.Partition.{block}
use Rattle.block_laws.specs.Assembly.{matrix}
use Rattle.dec_oct.specs.Value.{Blocks, marked}
use Rattle.dec_oct.specs.Cost.{IsMarkedBlock}

-- a block with its matrix is a marked one of one of two values
abbrev pub IsEither : Blocks → Blocks → List ℕ → Matrix → Type 0
IsEither a b vs m = IsMarkedBlock a vs m ⊎ IsMarkedBlock b vs m

-- which of some blocks are such ones
pub record TellsEither (a b : Blocks) (bs : List (List ℕ)) (ms : List Matrix) (marks : List Bool) : Type 0 where
  pub size : length marks ≡ length bs
  pub exact : (c : ℕ) → c < length bs → (marked marks c ≡ true) ↔ IsEither a b (block bs c) (matrix ms c)

-- a block of the result is marked where one of the two values has it, with its matrix and a mark. So it is where both have
-- it, with one matrix, and one of them marks it
pub record KeepsEither (a b r : Blocks) : Type 0 where
  pub one : (c : ℕ) → c < length r.partition → IsEither a b (block r.partition c) (matrix r.matrices c) → marked r.marks c ≡ true
  pub both : (p q c : ℕ) → p < length a.partition → q < length b.partition → c < length r.partition → block a.partition p ≡ block r.partition c → block b.partition q ≡ block r.partition c
      → matrix a.matrices p ≡ matrix b.matrices q → (marked a.marks p ≡ true) ⊎ (marked b.marks q ≡ true) → marked r.marks c ≡ true

abbrev pub KeepsEitherOf : Blocks → Blocks → Option Blocks → Type 0
KeepsEitherOf a b None = ⊥
KeepsEitherOf a b (Some r) = KeepsEither a b r

-- after a join and a widening; where one side is Bottom, the other one's blocks as they are
abbrev pub JoinsMarks : Option Blocks → Option Blocks → Option Blocks → Type 0
JoinsMarks None b r = r ≡ b
JoinsMarks (Some a) None r = r ≡ Some a
JoinsMarks (Some a) (Some b) r = KeepsEitherOf a b r

-- after a narrowing, which has no blocks where one side is Bottom
abbrev pub NarrowsMarks : Option Blocks → Option Blocks → Option Blocks → Type 0
NarrowsMarks None b r = r ≡ None
NarrowsMarks (Some a) None r = r ≡ None
NarrowsMarks (Some a) (Some b) r = KeepsEitherOf a b r
