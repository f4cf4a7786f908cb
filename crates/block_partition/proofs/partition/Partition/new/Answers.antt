use Rattle.std.proofs.Common.{[], refl}
use Rattle.block_partition.proofs.Relabelled.{valid-none}
use Rattle.block_partition.proofs.partition.Partition.new.Goals as goal

pub invariant_of-result : goal.invariant_of-result
invariant_of-result c = valid-none [] [] refl refl
