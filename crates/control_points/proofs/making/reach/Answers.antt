use Rattle.std.proofs.Common.{arith}
use Rattle.control_points.proofs.Keeping.{reach_more}
use Rattle.control_points.proofs.making.reach.Goals as goal

pub loop-k-preserved : goal.loop-k-preserved
loop-k-preserved c = record {
  low = omega (arith, c.least_child-low.ensures.least, c.loop-k.invariant.low);
  reach = reach_more c.args.tree.now.exprs c.loop-k.low c.least_child-low.result c.args.first c.loop-k.k c.expr.result (omega (arith, c.loop-k-test.true, c.requires)) c.expr.ensures.found c.least_child-low.ensures.least c.least_child-low.ensures.reaches c.loop-k.invariant.reach;
}
