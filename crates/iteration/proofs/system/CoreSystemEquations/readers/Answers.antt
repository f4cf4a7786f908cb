use Rattle.std.proofs.Common.{arith, ◌∙◌}
use Rattle.iteration.proofs.Forward.{readers_long, readers_read}
use Rattle.iteration.proofs.Planned.{plan_of, points, are_readers}
use Rattle.iteration.proofs.system.CoreSystemEquations.readers.Goals as goal

pub readers-requires : goal.readers-requires
readers-requires g c =
    let s = c.self.inside in
    let plan = plan_of s.core.now c.args.self.now s.graph.now s.table.now c.self.view_is c.self.invariant in
    omega (arith, readers_long c.args.self.now s.table.now plan.sources, points c.args.self.now, c.requires.point)

pub returns : goal.returns
returns g c =
    let s = c.self.inside in
    let plan = plan_of s.core.now c.args.self.now s.graph.now s.table.now c.self.view_is c.self.invariant in
    record { readers = are_readers c.args.self.now c.args.p c.readers.result.now (c.readers.ensures ∙ readers_read c.args.self.now s.table.now c.args.p plan.sources (omega (arith, points c.args.self.now, c.requires.point))) }
