use Rattle.block_partition.proofs.Unique.{partition-unique}
use Rattle.block_partition.proofs.laws.law_unique.Goals as goal

pub returns : goal.returns
returns c = partition-unique
