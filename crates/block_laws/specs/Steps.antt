-- What the steps of the tight closure leave as it is, step by step.
use Rattle.std.specs.Prelude.{◌≡◌, ℕ, ◌*◌, ◌/◌, ◌<◌, ◌⊎◌, true, Some, List, length}
use Rattle.oct_def.specs.Bound.{at_most}
use Rattle.oct_def.specs.Table.{Matrix, at}
use Rattle.oct_def.specs.Matrix.{IsSquare}
use Rattle.oct_def.specs.Tight.{closure, pair_step, evening, strengthening, tight}
use Rattle.block_partition.specs.Partition.{IsIn, IsBlock}
use Rattle.block_laws.specs.Assembly.{IsCutOff, restrict}
use Rattle.block_laws.specs.Components.{HasBound}

-- no entry is above the other matrix's
pub record IsBelow (x m : Matrix) : Type 0 where
  pub below : (i j : ℕ) → i < length m → j < length m → at_most (at x i j) (at m i j) ≡ true

-- the pair step at a variable of a block that is cut off changes nothing outside the block
abbrev pub PairStepInside : Type 0
PairStepInside = (n k : ℕ) (vs : List ℕ) (m : Matrix) → length m ≡ 2 * n → k < n → IsIn vs k → IsCutOff vs m
    → (i j : ℕ) → i < length m → j < length m → (IsIn vs (i / 2) → ⊥) ⊎ (IsIn vs (j / 2) → ⊥) → at (pair_step k m) i j ≡ at m i j

-- pair steps, in the order of the variables, act in a block that is cut off as those of the block alone
abbrev pub PairStepsInBlock : Type 0
PairStepsInBlock = (n : ℕ) (vs : List ℕ) (m : Matrix) → length m ≡ 2 * n → IsBlock n vs → IsCutOff vs m → restrict vs (closure m) ≡ closure (restrict vs m)

-- no step raises an entry
pub record StepsLower (m : Matrix) : Type 0 where
  pub pairs : (k : ℕ) → IsBelow (pair_step k m) m
  pub unary : IsBelow (evening m) m
  pub strong : IsBelow (strengthening m) m

abbrev pub StepsNeverRaise : Type 0
StepsNeverRaise = (m : Matrix) → StepsLower m

-- no step changes the matrix
pub record StepsKeep (n : ℕ) (m : Matrix) : Type 0 where
  pub pairs : (k : ℕ) → k < n → pair_step k m ≡ m
  pub unary : evening m ≡ m
  pub strong : strengthening m ≡ m

-- a matrix that the tight closure gives again is unchanged by each step
abbrev pub SettledStays : Type 0
SettledStays = (m : Matrix) → IsSquare m → tight m ≡ Some m → StepsKeep (length m / 2) m

-- the strengthening changes only entries between variables that have a bound
abbrev pub StrengtheningOfBounds : Type 0
StrengtheningOfBounds = (n : ℕ) (m : Matrix) (i j : ℕ) → length m ≡ 2 * n → i < length m → j < length m → (HasBound m (i / 2) → ⊥) ⊎ (HasBound m (j / 2) → ⊥)
    → at (strengthening m) i j ≡ at m i j
