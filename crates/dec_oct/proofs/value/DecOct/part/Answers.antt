use Rattle.std.proofs.Common.{rules}
use Rattle.block_partition.specs.Partition.{IsBlock}
use Rattle.block_partition.proofs.Places.{block_length}
use Rattle.dec_oct.proofs.value.DecOct.part.Goals as goal

pub part-requires-clause-few_members : goal.part-requires-clause-few_members
part-requires-clause-few_members c =
    let b : IsBlock c.self.inside.dims c.args.members.now = search rules in
    block_length c.self.inside.dims c.args.members.now b
