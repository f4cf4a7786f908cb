use Rattle.std.proofs.Common.{length, ap, arith}
use Rattle.block_partition.proofs.Places.{block_size}
use Rattle.dec_oct.proofs.parts.parts_over.Goals as goal

pub part-requires-clause-few_members : goal.part-requires-clause-few_members
part-requires-clause-few_members c =
    let r = block_size c.args.dims c.args.others.now c.loop-c.c c.requires.others (omega arith) in
    let e = ap length c.block.ensures in
    omega arith
