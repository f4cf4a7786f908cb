use Rattle.std.proofs.Common.{length, arith, ap}
use Rattle.block_partition.proofs.Places.{block_size}
use Rattle.components.proofs.walk.greatest_size.Goals as goal

pub overflow_cast-size : goal.overflow_cast-size
overflow_cast-size c =
    let r = block_size 512 c.args.blocks.now c.loop-b.b c.known.ensures.partition (omega (arith, c.len-b-end.ensures.count, c.loop-b-test.true)) in
    let e = ap length c.block.ensures in
    omega arith
