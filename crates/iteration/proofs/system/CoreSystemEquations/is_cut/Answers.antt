use Rattle.std.proofs.Common.{arith, ◌∙◌}
use Rattle.iteration.proofs.Forward.{cut_read, cuts_long}
use Rattle.iteration.proofs.Planned.{plan_of, points}
use Rattle.iteration.proofs.system.CoreSystemEquations.is_cut.Goals as goal

pub is_cut-requires : goal.is_cut-requires
is_cut-requires g c =
    let s = c.self.inside in
    let plan = plan_of s.core.now c.args.self.now s.graph.now s.table.now c.self.view_is c.self.invariant in
    omega (arith, cuts_long c.args.self.now s.graph.now plan.graph, points c.args.self.now, c.requires.point)

pub returns : goal.returns
returns g c =
    let s = c.self.inside in
    let plan = plan_of s.core.now c.args.self.now s.graph.now s.table.now c.self.view_is c.self.invariant in
    record { cut = c.is_cut.ensures ∙ cut_read c.args.self.now s.graph.now c.args.p plan.graph (omega (arith, points c.args.self.now, c.requires.point)) }
