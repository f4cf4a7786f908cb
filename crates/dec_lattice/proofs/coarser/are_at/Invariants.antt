use Rattle.std.proofs.Common.{◌≡◌, ℕ, ◌<◌}
use Rattle.block_partition.specs.Partition.{member, home}
use Rattle.dec_lattice.proofs.coarser.are_at.Given as goal

abbrev pub invariant-loop-i : goal.invariant-loop-i
invariant-loop-i l = (k : ℕ) → k < l.i → home l.partition (member l.members k) ≡ l.b
