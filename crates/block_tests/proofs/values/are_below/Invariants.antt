use Rattle.std.proofs.Common.{ℕ, ◌<◌}
use Rattle.block_partition.specs.Partition.{member}
use Rattle.block_tests.proofs.values.are_below.Given as goal

abbrev pub invariant-loop-i : goal.invariant-loop-i
invariant-loop-i l = (k : ℕ) → k < l.i → member l.members k < l.dims
