use Rattle.std.proofs.Common.{◌≡◌, ℕ, ◌<◌, length}
use Rattle.block_partition.specs.Grouping.{label}
use Rattle.block_partition.specs.Relabelling.{split_label}
use Rattle.block_partition.proofs.partition.Partition.split.Given as goal

-- the labels so far
abbrev pub invariant-loop-v : goal.invariant-loop-v
invariant-loop-v l = (length l.made.items ≡ l.v) × ((k : ℕ) → k < l.v → label l.made.items k ≡ split_label l.self l.b l.labels k)
