use Rattle.std.proofs.Common.{arith}
use Rattle.dec_parts.proofs.LoweredParts.{more-parts, all-parts}
use Rattle.dec_parts.proofs.lower.lowered_parts.Goals as goal

pub loop-c-preserved : goal.loop-c-preserved
loop-c-preserved c =
    more-parts c.args.v.now.dims c.args.v.now.blocks c.args.bounds.now c.args.partition c.loop-c.c c.block.result.now c.loop-c.matrices.items _ c.loop-c.settled.items _ c.in_ok-part.part.matrix c.in_ok-part.part.settled c.loop-c.invariant c.block.ensures c.in_ok-part.ensures
    c.in_ok-push.ensures.items c.in_ok-push-2.ensures.items

pub returns-clause-parts : goal.returns-clause-parts
returns-clause-parts c =
    all-parts c.args.v.now.dims c.args.v.now.blocks c.args.bounds.now c.args.partition c.loop-c.c c.loop-c.matrices.items c.loop-c.settled.items c.loop-c.invariant (omega arith)
