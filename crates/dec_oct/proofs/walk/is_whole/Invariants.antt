use Rattle.std.proofs.Common.{◌≡◌, ℕ, ◌<◌}
use Rattle.block_partition.specs.Partition.{member}
use Rattle.block_partition.specs.Changes.{leaving}
use Rattle.dec_oct.proofs.walk.is_whole.Given as goal

abbrev pub invariant-loop-i : goal.invariant-loop-i
invariant-loop-i l = (k : ℕ) → k < l.i → (member l.labels k ≡ member l.labels 0) × (member l.labels k ≡ leaving → ⊥)
