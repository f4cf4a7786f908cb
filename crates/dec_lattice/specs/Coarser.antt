-- The finest partition that is coarser than two.
use Rattle.std.specs.Prelude.{◌≡◌, ℕ, ◌<◌, List, length}
use Rattle.block_partition.specs.Partition.{member, home, SameBlock, IsPartition}

-- some variables are in one block
abbrev pub AreTogether : List (List ℕ) → List ℕ → Type 0
AreTogether bs vs = (b : ℕ) × (b < length bs) × ((i : ℕ) → i < length vs → home bs (member vs i) ≡ b)

-- coarser than the first, and than the first k blocks of the second, and within each partition that is coarser than both
pub record IsCoarser (n : ℕ) (bs cs : List (List ℕ)) (k : ℕ) (ds : List (List ℕ)) : Type 0 where
  pub partition : IsPartition n ds
  pub first : (u w : ℕ) → u < n → w < n → SameBlock bs u w → SameBlock ds u w
  pub second : (u w : ℕ) → u < n → w < n → SameBlock cs u w → home cs u < k → SameBlock ds u w
  pub finest : (es : List (List ℕ)) → ((u w : ℕ) → u < n → w < n → SameBlock bs u w → SameBlock es u w) → ((u w : ℕ) → u < n → w < n → SameBlock cs u w → SameBlock es u w)
      → (u w : ℕ) → u < n → w < n → SameBlock ds u w → SameBlock es u w
