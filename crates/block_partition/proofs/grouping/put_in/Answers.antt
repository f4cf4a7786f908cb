use Rattle.std.proofs.Common.{arith}
use Rattle.block_partition.proofs.Steps.{put-in}
use Rattle.block_partition.proofs.grouping.put_in.Goals as goal

pub returns-in_ok-push-3 : goal.returns-in_ok-push-3
returns-in_ok-push-3 c = put-in _ c.args.blocks.now.items c.args.b c.args.v _ c.index_mut.result.now (grind (arith, c.if-b-len.false)) c.in_ok-push-3.ensures.items c.index_mut.ensures.value
