use Rattle.std.proofs.Common.{◌∙◌}
use Rattle.iteration.proofs.Forward.{order_read}
use Rattle.iteration.proofs.Planned.{plan_of}
use Rattle.iteration.proofs.system.CoreSystemEquations.order.Goals as goal

pub returns : goal.returns
returns g c =
    let s = c.self.inside in
    let plan = plan_of s.core.now c.args.self.now s.graph.now s.table.now c.self.view_is c.self.invariant in
    record { order = c.order.ensures ∙ order_read c.args.self.now s.graph.now plan.graph }
