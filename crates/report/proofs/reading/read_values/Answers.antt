use Rattle.std.proofs.Common.{arith}
use Rattle.iteration.specs.Solution.{read_in}
use Rattle.report.proofs.Steps.{one_more_value}
use Rattle.report.proofs.reading.read_values.Goals as goal

pub loop-point-preserved : goal.loop-point-preserved
loop-point-preserved g c = record {
  values = one_more_value g.D.Domain.meaning (read_in c.args.solution.now) c.loop-point.point c.loop-point.values.items c.push.new.self.items c.in_ok-value.value
      c.loop-point.invariant.values c.in_ok-push.ensures.items c.in_ok-value.ensures.value;
  work = omega (arith, c.loop-point.invariant.work, c.in_ok-value.ensures.work);
}
