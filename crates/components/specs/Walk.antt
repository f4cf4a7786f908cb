-- How far a walk over the entries of a value has come.
use Rattle.std.specs.Prelude.{◌≡◌, ℕ, ◌<◌, Option, None, Some, List}
use Rattle.oct_def.specs.Table.{Matrix, at}
use Rattle.oct_def.specs.Octagon.{Octagon}
use Rattle.block_partition.specs.Partition.{SameBlock}
use Rattle.block_laws.specs.Components.{Joins, Linked}

-- a finite entry off the diagonal
abbrev pub IsBoundAt : Option Matrix → ℕ → ℕ → Type 0
IsBoundAt None i j = ⊥
IsBoundAt (Some m) i j = (i ≡ j → ⊥) × (at m i j ≡ None → ⊥)

-- a finite entry off the diagonal joins two variables of a value; chains of such entries link them
abbrev pub AreJoined : Option Matrix → ℕ → ℕ → Type 0
AreJoined None u w = ⊥
AreJoined (Some m) u w = Joins m u w

abbrev pub AreLinked : Option Matrix → ℕ → ℕ → Type 0
AreLinked None u w = ⊥
AreLinked (Some m) u w = Linked m u w

-- only linked variables of the value share a block
pub record IsWithin (v : Octagon) (bs : List (List ℕ)) : Type 0 where
  pub inside : (u : ℕ) → u < 512 → SameBlock bs u u → u < v.dims
  pub linked : (u w : ℕ) → u < 512 → w < 512 → SameBlock bs u w → AreLinked v.matrix u w

-- variables that share a block go on to share one
abbrev pub Grows : List (List ℕ) → List (List ℕ) → Type 0
Grows before now = (u w : ℕ) → u < 512 → w < 512 → SameBlock before u w → SameBlock now u w

-- a variable shares a block with each one below `end` that is joined to it
abbrev pub HasJoins : Octagon → List (List ℕ) → (end u : ℕ) → Type 0
HasJoins v bs end u = (w : ℕ) → w < end → AreJoined v.matrix u w → SameBlock bs u w
