use Rattle.std.proofs.Common.{arith}
use Rattle.block_partition.proofs.Places.{few_blocks}
use Rattle.block_partition.proofs.Relabelled.{key-some, key-none}
use Rattle.block_partition.proofs.partition.Partition.key.Goals as goal

pub returns-in-Some-clause-key : goal.returns-in-Some-clause-key
returns-in-Some-clause-key c = key-some c.args.self.now c.args.v c.in-Some.b c.in-Some.ensures

pub returns-in-Some-clause-small : goal.returns-in-Some-clause-small
returns-in-Some-clause-small c = let r = few_blocks 512 c.args.self.now c.in-Some.b c.known.ensures.partition c.known.ensures.ordered c.in-Some.ensures.1 in omega arith

pub returns-in-None-clause-key : goal.returns-in-None-clause-key
returns-in-None-clause-key c = key-none c.args.self.now c.args.v c.in-None.ensures
