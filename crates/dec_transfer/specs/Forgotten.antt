-- Random assignments on values in blocks.
use Rattle.std.specs.Prelude.{◌≡◌, ℕ, ◌<◌, nat_eq, true, Option, Some, None, List, length, if◌then◌else◌}
use Rattle.block_partition.specs.Partition.{block}
use Rattle.block_laws.specs.Assembly.{matrix}
use Rattle.dec_oct.specs.Value.{Blocks, marked}
use Rattle.dec_oct.specs.Cost.{IsMarkedBlock}
use Rattle.dec_parts.specs.Rename.{origin}

-- all of n variables but one, each at its place
pub record AreOthers (n x : ℕ) (origins : List (Option ℕ)) : Type 0 where
  pub size : length origins ≡ n
  pub each : (v : ℕ) → v < n → origin origins v ≡ (if nat_eq v x then None else Some v)

-- a block of the result that is a marked block of the argument is marked
pub record KeepsUntouched (a r : Blocks) : Type 0 where
  pub kept : (c : ℕ) → c < length r.partition → IsMarkedBlock a (block r.partition c) (matrix r.matrices c) → marked r.marks c ≡ true

abbrev pub KeepsUntouchedOf : ℕ → Option Blocks → Option Blocks → Type 0
KeepsUntouchedOf x None r = r ≡ None
KeepsUntouchedOf x (Some a) None = ⊥
KeepsUntouchedOf x (Some a) (Some r) = KeepsUntouched a r
