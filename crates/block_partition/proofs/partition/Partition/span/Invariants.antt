use Rattle.std.proofs.Common.{ℕ, ◌<◌, ◌≤◌, length}
use Rattle.block_partition.specs.Partition.{member, home}
use Rattle.block_partition.proofs.partition.Partition.span.Given as goal

-- above the blocks' variables and those given so far
abbrev pub invariant-loop-i : goal.invariant-loop-i
invariant-loop-i l = (l.past ≤ 512) × ((k : ℕ) → k < l.i → member l.vars k < l.past) × ((v : ℕ) → l.past ≤ v → length l.self ≤ home l.self v)
