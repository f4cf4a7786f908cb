use Rattle.std.proofs.Common.{◌+◌}
use Rattle.domain_tests.proofs.Keeping.{push-sized}
use Rattle.domain_tests.proofs.walks.walk.Goals as goal

pub loop-step-preserved : goal.loop-step-preserved
loop-step-preserved g c =
    push-sized g.D.Domain.meaning 6 (c.loop-step.step + 1) c.loop-step.values.items c.push-in-loop-step-2.new.self.items c.in_ok-value.value c.loop-step.invariant
    c.in_ok-value.ensures.dims c.in_ok-push-3.ensures.items
