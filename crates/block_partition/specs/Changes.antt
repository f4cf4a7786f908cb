-- The partitions that a merge, a split and a meet give, told by which variables share a block.
use Rattle.std.specs.Prelude.{◌≡◌, ℕ, ◌<◌, ◌⊎◌, ◌↔◌, Option, None, List, length, slice_index_or}
use Rattle.block_partition.specs.Partition.{member, place, block, home, SameBlock}

-- variables below 512
abbrev pub AreVariables : List ℕ → Type 0
AreVariables vs = (i : ℕ) → i < length vs → member vs i < 512

-- a variable is one of some variables, or shares a block with one
abbrev pub IsNear : List (List ℕ) → List ℕ → ℕ → Type 0
IsNear bs vs v = (i : ℕ) × (i < length vs) × ((member vs i ≡ v) ⊎ SameBlock bs (member vs i) v)

-- some variables and every block that holds one of them became one block; the other blocks stay
pub record IsMergedBy (bs : List (List ℕ)) (vs : List ℕ) (cs : List (List ℕ)) : Type 0 where
  pub exact : (u w : ℕ) → u < 512 → w < 512 → SameBlock cs u w ↔ (SameBlock bs u w ⊎ (IsNear bs vs u × IsNear bs vs w))

-- the label of a member that leaves its block
abbrev pub leaving : ℕ
leaving = 4294967295

-- the label of a member of block b
abbrev pub label_of : List (List ℕ) → ℕ → List ℕ → ℕ → ℕ
label_of bs b labels v = member labels (place (block bs b) v)

-- two members of block b have one label and don't leave
pub record IsSplitPair (bs : List (List ℕ)) (b : ℕ) (labels : List ℕ) (u w : ℕ) : Type 0 where
  pub first : home bs u ≡ b
  pub second : home bs w ≡ b
  pub same : label_of bs b labels u ≡ label_of bs b labels w
  pub stays : label_of bs b labels u ≡ leaving → ⊥

-- members of block b with equal labels became a block, those labelled `leaving` are in none; the other blocks stay
pub record IsSplitBy (bs : List (List ℕ)) (b : ℕ) (labels : List ℕ) (cs : List (List ℕ)) : Type 0 where
  pub exact : (u w : ℕ) → u < 512 → w < 512 → SameBlock cs u w ↔ ((SameBlock bs u w × (home bs u ≡ b → ⊥)) ⊎ IsSplitPair bs b labels u w)

-- the intersections of blocks that aren't empty
pub record IsMeetOf (xs ys : List (List ℕ)) (cs : List (List ℕ)) : Type 0 where
  pub exact : (u w : ℕ) → u < 512 → w < 512 → SameBlock cs u w ↔ (SameBlock xs u w × SameBlock ys u w)

-- the number that a variable is given, if it is given one
abbrev pub given_label : List (Option ℕ) → ℕ → Option ℕ
given_label labels v = slice_index_or labels v None

-- variables that are given one number are a block, and those that are given none are in none
pub record IsGroupedBy (labels : List (Option ℕ)) (cs : List (List ℕ)) : Type 0 where
  pub exact : (u w : ℕ) → SameBlock cs u w ↔ ((given_label labels u ≡ given_label labels w) × (given_label labels u ≡ None → ⊥))
