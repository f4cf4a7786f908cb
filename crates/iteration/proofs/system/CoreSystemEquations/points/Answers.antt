use Rattle.std.proofs.Common.{length, sym, ap, ◌∙◌}
use Rattle.spl_core.specs.Parts.{Parts}
use Rattle.iteration.proofs.Planned.{plan_of, points, core_system}
use Rattle.iteration.proofs.system.CoreSystemEquations.points.Goals as goal

pub returns-clause-points : goal.returns-clause-points
returns-clause-points g c = c.points.ensures.count ∙ ap (λ (k : Parts). length k.owners) c.self.view_is ∙ sym (points c.args.self.now)

pub returns-clause-known : goal.returns-clause-known
returns-clause-known g c =
    let s = c.self.inside in
    let plan = plan_of s.core.now c.args.self.now s.graph.now s.table.now c.self.view_is c.self.invariant in
    core_system c.args.self.now plan.core
