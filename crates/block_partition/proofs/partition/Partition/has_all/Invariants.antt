use Rattle.std.proofs.Common.{◌≡◌, ℕ, ◌<◌}
use Rattle.block_partition.specs.Partition.{member, home}
use Rattle.block_partition.proofs.partition.Partition.has_all.Given as goal

-- the variables so far are in the block
abbrev pub invariant-loop-i : goal.invariant-loop-i
invariant-loop-i l = (k : ℕ) → k < l.i → home l.self (member l.vars k) ≡ l.b
