-- What an assignment costs.
use Rattle.std.specs.Prelude.{◌≡◌, ℕ, ◌+◌, ◌*◌, ◌/◌, ◌<◌, ◌⊎◌, ◌↔◌, true, Option, Some, None, List, length}
use Rattle.oct_def.specs.Table.{Matrix}
use Rattle.oct_def.specs.Tight.{tight}
use Rattle.spl_core.specs.Expression.{Expression}
use Rattle.interval_form.specs.FormBounds.{form_entry}
use Rattle.transfer_def.specs.Assign.{extended_ranges, form_minus_new, new_minus_form, equated}
use Rattle.block_partition.specs.Partition.{block, IsIn}
use Rattle.block_laws.specs.Assembly.{matrix, IsParts}
use Rattle.block_laws.specs.Components.{IsComponents}
use Rattle.dec_oct.specs.Value.{Blocks, marked, whole, octagon_of, octagon, decomposed, IsKeptBlocks}
use Rattle.dec_oct.specs.Cost.{IsMarkedBlock, CostsAtMost}

-- a new bound of `x := e` on a matrix over n variables: of the expression minus the new variable, or of that minus this
abbrev pub IsNewBound : ℕ → Expression → Matrix → ℕ → ℕ → Type 0
IsNewBound n e m i j =
    (form_entry (extended_ranges n m) (form_minus_new n m e) i j ≡ None → ⊥)
    ⊎ (form_entry (extended_ranges n m) (new_minus_form n m e) i j ≡ None → ⊥)

-- a new bound touches a block
pub record IsNewlyTouched (n : ℕ) (e : Expression) (m : Matrix) (vs : List ℕ) : Type 0 where
  pub row : ℕ
  pub column : ℕ
  pub row_in : row < 2 * (n + 1)
  pub column_in : column < 2 * (n + 1)
  pub bound : IsNewBound n e m row column
  pub touch : IsIn vs (row / 2) ⊎ IsIn vs (column / 2)

-- the blocks of k, the matrix before the tight closure of `x := e` on a value: its components, marked where they are marked
-- blocks of the value that no new bound touches
pub record AreBlocksBefore (n : ℕ) (e : Expression) (a : Blocks) (k : Matrix) (b : Blocks) : Type 0 where
  pub parts : IsParts (n + 1) b.partition b.matrices
  pub same : whole (n + 1) b ≡ k
  pub components : IsComponents (n + 1) b.partition k
  pub size : length b.marks ≡ length b.partition
  pub marks : (c : ℕ) → c < length b.partition → (marked b.marks c ≡ true) ↔ (IsMarkedBlock a (block b.partition c) (matrix b.matrices c) × (IsNewlyTouched n e (whole n a) (block b.partition c) → ⊥))

-- a count rises by at most the cost of all unmarked blocks of k and that of the blocks of its tight closure that are no
-- marked blocks of k
pub record IsAssignCount (n : ℕ) (e : Expression) (a : Blocks) (k : Matrix) (old new : ℕ) : Type 0 where
  pub before : Blocks
  pub blocks : AreBlocksBefore n e a k before
  pub after : Option Blocks
  pub kept : IsKeptBlocks (n + 1) after
  pub closed : octagon_of (n + 1) (tight k) ≡ octagon (decomposed (n + 1) after)
  pub cost : CostsAtMost before after old new

-- where the bounds can't be met, nothing is closed
abbrev pub AssignCountOf : ℕ → Expression → Blocks → Option Matrix → ℕ → ℕ → Type 0
AssignCountOf n e a None old new = new ≡ old
AssignCountOf n e a (Some k) old new = IsAssignCount n e a k old new

abbrev pub AssignCosts : ℕ → Expression → Option Blocks → ℕ → ℕ → Type 0
AssignCosts n e None old new = new ≡ old
AssignCosts n e (Some a) old new = AssignCountOf n e a (equated n e (whole n a)) old new
