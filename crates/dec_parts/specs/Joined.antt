-- Blocks that listed bounds join, and parts that take listed bounds.
use Rattle.std.specs.Prelude.{◌≡◌, ℕ, ◌*◌, ◌/◌, ◌<◌, ◌&&◌, ◌↔◌, nat_lt, Bool, true, List, [], ◌∷◌, length, if◌then◌else◌}
use Rattle.oct_def.specs.Bound.{least, bound_of}
use Rattle.oct_def.specs.Table.{Matrix, at}
use Rattle.oct_def.specs.Matrix.{IsCoherent}
use Rattle.interval_form.specs.declared.constraints.OctBound.{OctBound}
use Rattle.half_matrix.specs.Lending.{with_entry}
use Rattle.block_partition.specs.Partition.{place, block, SameBlock, IsPartition}
use Rattle.block_laws.specs.Assembly.{inner, matrix, restrict}
use Rattle.block_laws.specs.Components.{Linked}
use Rattle.dec_oct.specs.Value.{Blocks, marked, whole}
use Rattle.dec_oct.specs.Cost.{IsMarkedBlock}
use Rattle.dec_parts.specs.Lower.{bound_in, lowered_matrix, Touches}

-- the variables of a bound
abbrev pub first_of : List OctBound → ℕ → ℕ
first_of bounds k = (bound_in bounds k).row / 2

abbrev pub second_of : List OctBound → ℕ → ℕ
second_of bounds k = (bound_in bounds k).column / 2

-- the first k bounds, and what shares a block, are linked in a matrix
pub record AreLinked (n : ℕ) (bs : List (List ℕ)) (bounds : List OctBound) (k : ℕ) (x : Matrix) : Type 0 where
  pub rows : length x ≡ 2 * n
  pub coherent : IsCoherent x
  pub old : (u w : ℕ) → SameBlock bs u w → Linked x u w
  pub bounds_in : (i : ℕ) → i < k → Linked x (first_of bounds i) (second_of bounds i)

-- blocks that hold the old ones, and the variables of each of the first k bounds together; what shares one is linked where
-- those are
pub record IsJoinedBy (n : ℕ) (bs : List (List ℕ)) (bounds : List OctBound) (k : ℕ) (cs : List (List ℕ)) : Type 0 where
  pub partition : IsPartition n cs
  pub old : (u w : ℕ) → SameBlock bs u w → SameBlock cs u w
  pub together : (i : ℕ) → i < k → SameBlock cs (first_of bounds i) (second_of bounds i)
  pub close : (x : Matrix) → AreLinked n bs bounds k x → (u w : ℕ) → SameBlock cs u w → Linked x u w

-- a part with a bound taken by minimum, if it is one between members
unfoldable pub is_inside : List ℕ → OctBound → Bool
is_inside vs b = nat_lt (place vs (b.row / 2)) (length vs) && nat_lt (place vs (b.column / 2)) (length vs)

unfoldable pub with_taken : List ℕ → Matrix → OctBound → Matrix
with_taken vs m b = if is_inside vs b then with_entry m (inner vs b.row) (inner vs b.column) (least (at m (inner vs b.row) (inner vs b.column)) (bound_of b.word)) else m

abbrev pub with_all_taken : List ℕ → Matrix → List OctBound → Matrix
with_all_taken vs m [] = m
with_all_taken vs m (b ∷ bs) = with_all_taken vs (with_taken vs m b) bs

-- the part over a block, marked exactly where it is a marked block of the value that no bound touches
pub record IsLoweredPart (n : ℕ) (a : Blocks) (bounds : List OctBound) (vs : List ℕ) (m : Matrix) (mark : Bool) : Type 0 where
  pub words : m ≡ restrict vs (lowered_matrix n bounds (whole n a))
  pub exact : (mark ≡ true) ↔ (IsMarkedBlock a vs m × (Touches bounds vs → ⊥))

pub record AreLoweredParts (n : ℕ) (a : Blocks) (bounds : List OctBound) (ds : List (List ℕ)) (ms : List Matrix) (marks : List Bool) : Type 0 where
  pub count : length ms ≡ length ds
  pub size : length marks ≡ length ds
  pub each : (c : ℕ) → c < length ds → IsLoweredPart n a bounds (block ds c) (matrix ms c) (marked marks c)
