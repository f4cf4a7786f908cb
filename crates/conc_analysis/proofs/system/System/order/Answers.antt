use Rattle.std.proofs.Common.{◌∙◌}
use Rattle.conc_analysis.proofs.Planning.{plan_of, order_read}
use Rattle.conc_analysis.proofs.system.System.order.Goals as goal

pub returns-clause-found : goal.returns-clause-found
returns-clause-found c =
    let s = c.self.inside in
    let plan = plan_of (record { core = s.core.now; sharing = s.threads.now }) c.args.self.now s.graph c.self.view_is c.self.invariant in
    c.order.ensures ∙ order_read c.args.self.now.core s.graph plan.tables_are
