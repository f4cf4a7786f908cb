use Rattle.std.proofs.Common.{arith, ◌∙◌}
use Rattle.conc_analysis.proofs.Planning.{plan_of, cuts_long, cut_read}
use Rattle.conc_analysis.proofs.system.System.is_cut.Goals as goal

pub is_cut-requires : goal.is_cut-requires
is_cut-requires c =
    let s = c.self.inside in
    let plan = plan_of (record { core = s.core.now; sharing = s.threads.now }) c.args.self.now s.graph c.self.view_is c.self.invariant in
    omega (arith, cuts_long c.args.self.now.core s.graph plan.tables_are, c.requires)

pub returns : goal.returns
returns c =
    let s = c.self.inside in
    let plan = plan_of (record { core = s.core.now; sharing = s.threads.now }) c.args.self.now s.graph c.self.view_is c.self.invariant in
    c.is_cut.ensures ∙ cut_read c.args.self.now.core s.graph c.args.p plan.tables_are c.requires
