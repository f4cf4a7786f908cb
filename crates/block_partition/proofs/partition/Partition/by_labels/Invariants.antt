use Rattle.std.proofs.Common.{◌≡◌, ℕ, ◌<◌, length}
use Rattle.block_partition.specs.Changes.{given_label}
use Rattle.block_partition.specs.Grouping.{label}
use Rattle.block_partition.specs.Relabelling.{own_label}
use Rattle.block_partition.proofs.partition.Partition.by_labels.Given as goal

-- the labels so far
abbrev pub invariant-loop-v : goal.invariant-loop-v
invariant-loop-v l = (length l.made.items ≡ l.v) × ((k : ℕ) → k < l.v → label l.made.items k ≡ own_label (given_label l.labels k))
