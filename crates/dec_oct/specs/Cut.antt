-- An assembly as the assembly of its components.
use Rattle.std.specs.Prelude.{◌≡◌, ℕ, ◌<◌, ◌↔◌, nat_eq, List, length, if◌then◌else◌}
use Rattle.oct_def.specs.Bound.{Bound, least, plus, half}
use Rattle.oct_def.specs.Table.{Matrix}
use Rattle.oct_def.specs.Matrix.{opposite}
use Rattle.block_partition.specs.Partition.{member, home, SameBlock, IsOrdered}
use Rattle.block_partition.specs.Changes.{leaving}
use Rattle.block_laws.specs.Assembly.{assembly_entry, assembly, IsParts}
use Rattle.block_laws.specs.Components.{Joins, Linked, HasBound, IsComponents}

-- the components of a matrix in the order of their least members, and their matrices
pub record IsCut (n : ℕ) (m : Matrix) (bs : List (List ℕ)) (ms : List Matrix) : Type 0 where
  pub parts : IsParts n bs ms
  pub ordered : IsOrdered bs
  pub same : assembly n bs ms ≡ m
  pub components : IsComponents n bs m

-- a label after `from` became `to`
abbrev pub relabelled : ℕ → ℕ → ℕ → ℕ
relabelled from to l = if nat_eq l from then to else l

-- chains of entries of a matrix, of none too
pub data Chain (m : Matrix) : ℕ → ℕ → Type 0 where
  Same : (u : ℕ) → Chain m u u
  Then : (u v w : ℕ) → Chain m u v → Joins m v w → Chain m u w

-- members with one label are joined by a chain
pub record IsSound (n : ℕ) (m : Matrix) (labels : List ℕ) : Type 0 where
  pub size : length labels ≡ n
  pub small : (x : ℕ) → x < n → member labels x < n
  pub chain : (x y : ℕ) → x < n → y < n → member labels x ≡ member labels y → Chain m x y

-- the pairs of the rows before u, and of row u before column w, have one label where an entry joins them
pub record IsDone (m : Matrix) (labels : List ℕ) (u w : ℕ) : Type 0 where
  pub rows : (x y : ℕ) → x < u → Joins m x y → member labels x ≡ member labels y
  pub row : (y : ℕ) → y < w → Joins m u y → member labels u ≡ member labels y

-- labels that are equal exactly where a chain joins the members
pub record IsChainLabels (n : ℕ) (m : Matrix) (labels : List ℕ) : Type 0 where
  pub size : length labels ≡ n
  pub small : (x : ℕ) → x < n → member labels x < n
  pub exact : (x y : ℕ) → x < n → y < n → (member labels x ≡ member labels y) ↔ Chain m x y

-- two members with one label, which isn't that of members that leave
abbrev pub SameLabel : List ℕ → ℕ → ℕ → Type 0
SameLabel labels u w = (member labels u ≡ member labels w) × (member labels u ≡ leaving → ⊥)

-- all members have one label, and none leaves
abbrev pub HaveOneLabel : List ℕ → Type 0
HaveOneLabel labels = (i j : ℕ) → i < length labels → j < length labels → SameLabel labels i j

-- the labels of the components of a block's matrix
pub record IsLinkLabels (n : ℕ) (m : Matrix) (labels : List ℕ) : Type 0 where
  pub size : length labels ≡ n
  pub exact : (u w : ℕ) → u < n → w < n → SameLabel labels u w ↔ Linked m u w

-- the first k blocks are cut into components, the others are whole
pub record IsCutUpTo (n : ℕ) (bs : List (List ℕ)) (m : Matrix) (k : ℕ) (cs : List (List ℕ)) : Type 0 where
  pub exact : (u w : ℕ) → u < 512 → w < 512 → SameBlock cs u w ↔ (SameBlock bs u w × (home bs u < k → Linked m u w))

-- the variables below k that have a bound
pub record IsBounded (k : ℕ) (m : Matrix) (vs : List ℕ) : Type 0 where
  pub only : (i : ℕ) → i < length vs → (member vs i < k) × HasBound m (member vs i)
  pub all : (v : ℕ) → v < k → HasBound m v → (i : ℕ) × (i < length vs) × (member vs i ≡ v)

-- the entry of the strengthened assembly, from entries of the assembly
unfoldable pub strong_assembly_entry : List (List ℕ) → List Matrix → ℕ → ℕ → Bound
strong_assembly_entry bs ms i j = least (assembly_entry bs ms i j) (plus (half (assembly_entry bs ms i (opposite i))) (half (assembly_entry bs ms (opposite j) j)))
