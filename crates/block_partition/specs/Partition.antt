-- Partitions: a block is a rising list of variables, no two blocks share one, and a variable may be in none.
use Rattle.std.specs.Prelude.{◌≡◌, ℕ, ◌<◌, ◌↔◌, nat_eq, nat_lt, List, [], length, slice_index_or}
use Rattle.std.specs.List.{position_or_len}

-- the member at a place of a block
abbrev pub member : List ℕ → ℕ → ℕ
member vs i = slice_index_or vs i 0

-- the place of a variable in a block; the block's length where it isn't in it
unfoldable pub place : List ℕ → ℕ → ℕ
place vs v = position_or_len (λ x. nat_eq x v) vs

-- a variable is in a block
abbrev pub IsIn : List ℕ → ℕ → Type 0
IsIn vs v = place vs v < length vs

-- the block with a number
abbrev pub block : List (List ℕ) → ℕ → List ℕ
block bs b = slice_index_or bs b []

-- the number of the block that has a variable; the number of blocks where none has it
unfoldable pub home : List (List ℕ) → ℕ → ℕ
home bs v = position_or_len (λ vs. nat_lt (place vs v) (length vs)) bs

-- two variables are in one block
abbrev pub SameBlock : List (List ℕ) → ℕ → ℕ → Type 0
SameBlock bs u w = (home bs u ≡ home bs w) × (home bs u < length bs)

-- rising variables below n
pub record IsBlock (n : ℕ) (vs : List ℕ) : Type 0 where
  pub below : (i : ℕ) → i < length vs → member vs i < n
  pub rising : (i j : ℕ) → i < j → j < length vs → member vs i < member vs j

-- blocks that share no variable
pub record IsPartition (n : ℕ) (bs : List (List ℕ)) : Type 0 where
  pub blocks : (b : ℕ) → b < length bs → IsBlock n (block bs b)
  pub homes : (b i : ℕ) → b < length bs → i < length (block bs b) → home bs (member (block bs b) i) ≡ b

-- blocks that aren't empty, in the order of their least members
pub record IsOrdered (bs : List (List ℕ)) : Type 0 where
  pub filled : (b : ℕ) → b < length bs → 0 < length (block bs b)
  pub order : (b c : ℕ) → b < c → c < length bs → member (block bs b) 0 < member (block bs c) 0

-- a partition in order is known by which variables share a block
abbrev pub PartitionIsUnique : Type 0
PartitionIsUnique = (n : ℕ) (bs cs : List (List ℕ)) → IsPartition n bs → IsPartition n cs → IsOrdered bs → IsOrdered cs
    → ((u w : ℕ) → u < n → w < n → SameBlock bs u w ↔ SameBlock cs u w) → bs ≡ cs
