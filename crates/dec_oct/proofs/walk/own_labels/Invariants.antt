use Rattle.std.proofs.Common.{◌≡◌, ℕ, ◌<◌, length}
use Rattle.block_partition.specs.Partition.{member}
use Rattle.dec_oct.proofs.walk.own_labels.Given as goal

abbrev pub invariant-loop-v : goal.invariant-loop-v
invariant-loop-v l = (length l.labels.items ≡ l.v) × ((k : ℕ) → k < l.v → member l.labels.items k ≡ k)
