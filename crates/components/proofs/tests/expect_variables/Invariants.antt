use Rattle.std.proofs.Common.{ℕ, ◌<◌}
use Rattle.block_partition.specs.Partition.{member}
use Rattle.components.proofs.tests.expect_variables.Given as goal

abbrev pub invariant-loop-i : goal.invariant-loop-i
invariant-loop-i g l = (k : ℕ) → k < l.i → member l.vars k < 512
