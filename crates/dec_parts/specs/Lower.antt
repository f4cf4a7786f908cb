-- Values with listed bounds taken by minimum.
use Rattle.std.specs.Prelude.{◌≡◌, ℕ, ◌*◌, ◌/◌, ◌<◌, ◌⊎◌, ◌↔◌, true, List, length, slice_index_or, pos}
use Rattle.oct_def.specs.Bound.{Bound, least}
use Rattle.oct_def.specs.Table.{Matrix, table, at}
use Rattle.oct_def.specs.Matrix.{opposite}
use Rattle.interval_form.specs.declared.constraints.OctBound.{OctBound}
use Rattle.interval_form.specs.Listing.{listed}
use Rattle.block_partition.specs.Partition.{block, IsIn}
use Rattle.block_laws.specs.Assembly.{matrix, IsParts}
use Rattle.block_laws.specs.Components.{IsComponents}
use Rattle.dec_oct.specs.Value.{Blocks, marked, whole}
use Rattle.dec_oct.specs.Cost.{IsMarkedBlock}
use Rattle.dec_oct.specs.Given.{IsLooseGiven}

-- the bound with a number in a list
abbrev pub bound_in : List OctBound → ℕ → OctBound
bound_in bounds k = slice_index_or bounds k (record { row = 0; column = 0; word = pos 0 })

-- an entry lowered by what is listed at its place and at its twin's
unfoldable pub lowered_entry : List OctBound → Matrix → ℕ → ℕ → Bound
lowered_entry bounds m i j = least (at m i j) (least (listed bounds i j) (listed bounds (opposite j) (opposite i)))

unfoldable pub lowered_matrix : ℕ → List OctBound → Matrix → Matrix
lowered_matrix n bounds m = table (2 * n) (lowered_entry bounds m)

-- a bound speaks of a member of a block, and one of several bounds does
abbrev pub TouchesOne : OctBound → List ℕ → Type 0
TouchesOne b vs = IsIn vs (b.row / 2) ⊎ IsIn vs (b.column / 2)

abbrev pub Touches : List OctBound → List ℕ → Type 0
Touches bounds vs = (k : ℕ) × (k < length bounds) × TouchesOne (bound_in bounds k) vs

-- no bound is one on the diagonal
abbrev pub AreOffDiagonal : List OctBound → Type 0
AreOffDiagonal bounds = (k : ℕ) → k < length bounds → (bound_in bounds k).row ≡ (bound_in bounds k).column → ⊥

-- the blocks of a value with the bounds taken: marked are the marked blocks of the value that no bound touches
pub record IsLowered (n : ℕ) (a : Blocks) (bounds : List OctBound) (b : Blocks) : Type 0 where
  pub given : IsLooseGiven n b
  pub parts : IsParts n b.partition b.matrices
  pub same : whole n b ≡ lowered_matrix n bounds (whole n a)
  pub components : AreOffDiagonal bounds → IsComponents n b.partition (whole n b)
  pub marks : (c : ℕ) → c < length b.partition → (marked b.marks c ≡ true) ↔ (IsMarkedBlock a (block b.partition c) (matrix b.matrices c) × (Touches bounds (block b.partition c) → ⊥))
