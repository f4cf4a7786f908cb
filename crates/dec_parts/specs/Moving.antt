-- Added variables that take the places of others.
use Rattle.std.specs.Prelude.{◌≡◌, ℕ, ◌+◌, ◌<◌, ◌⊎◌, true, false, Option, Some, None, List, length}
use Rattle.std.specs.Option.{option_map}
use Rattle.oct_def.specs.Table.{Matrix}
use Rattle.oct_def.specs.Tight.{tight}
use Rattle.oct_def.specs.Octagon.{Octagon}
use Rattle.block_partition.specs.Partition.{member, block, IsIn}
use Rattle.transfer_def.specs.Dimensions.{moved_variable, moved}
use Rattle.block_laws.specs.Assembly.{matrix}
use Rattle.dec_oct.specs.Value.{Blocks, marked, decomposed, octagon, IsDecomposition}
use Rattle.dec_parts.specs.Rename.{origin}

-- the old variables that take the places of the first n ones
pub record AreMovedOrigins (n : ℕ) (targets : List ℕ) (origins : List (Option ℕ)) : Type 0 where
  pub size : length origins ≡ n
  pub each : (v : ℕ) → v < n → origin origins v ≡ Some (moved_variable n targets v)

-- a value over n variables and added ones, with the added ones moved
unfoldable pub moved_value : ℕ → List ℕ → Octagon → Octagon
moved_value n targets v = record { dims = n; matrix = option_map (moved n targets) v.matrix }

-- a mark is kept where a block without a target is one of the old blocks
pub record KeepsOtherMarks (targets : List ℕ) (a r : Blocks) : Type 0 where
  pub kept : (p c : ℕ) → p < length a.partition → c < length r.partition → block a.partition p ≡ block r.partition c → ((k : ℕ) → k < length targets → IsIn (block r.partition c) (member targets k) → ⊥)
      → marked a.marks p ≡ true → marked r.marks c ≡ true

abbrev pub KeepsOtherMarksOf : List ℕ → Option Blocks → Option Blocks → Type 0
KeepsOtherMarksOf targets None r = r ≡ None
KeepsOtherMarksOf targets (Some a) None = ⊥
KeepsOtherMarksOf targets (Some a) (Some r) = KeepsOtherMarks targets a r

-- ---- marks that may be missing after a move

-- the tight closure doesn't give a block's matrix again
abbrev pub IsChanged : Matrix → Type 0
IsChanged m = tight m ≡ Some m → ⊥

-- a block holds a target
abbrev pub HoldsTarget : List ℕ → List ℕ → Type 0
HoldsTarget targets vs = (k : ℕ) × (k < length targets) × IsIn vs (member targets k)

-- a block of some partition holds a target beside a member of vs
pub record WasBesideTarget (targets : List ℕ) (bs : List (List ℕ)) (vs : List ℕ) : Type 0 where
  pub number : ℕ
  pub within : number < length bs
  pub target : HoldsTarget targets (block bs number)
  pub shared : ℕ
  pub before : IsIn (block bs number) shared
  pub after : IsIn vs shared

-- a mark is missing only where the tight closure changes a block's matrix, where a target is in the block, or where one of its
-- variables shared a block with a target before the added variables took the targets' places; the blocks before are those of
-- the closed value
pub record MarksAllButTargets (n : ℕ) (targets : List ℕ) (closed : Octagon) (r : Blocks) : Type 0 where
  pub before : Blocks
  pub kept : IsDecomposition (n + length targets) before
  pub value : octagon (decomposed (n + length targets) (Some before)) ≡ closed
  pub missing : (c : ℕ) → c < length r.partition → marked r.marks c ≡ false → IsChanged (matrix r.matrices c) ⊎ (HoldsTarget targets (block r.partition c) ⊎ WasBesideTarget targets before.partition (block r.partition c))

abbrev pub MarksAllButTargetsOf : ℕ → List ℕ → Octagon → Option Blocks → Type 0
MarksAllButTargetsOf n targets closed None = Unit {0}
MarksAllButTargetsOf n targets closed (Some r) = MarksAllButTargets n targets closed r
