use Rattle.std.proofs.Common.{◌-◌, length, ℕ, ap, ◌∙◌}
use Rattle.spl_core.specs.Parts.{Parts, proc_at}
use Rattle.iteration.proofs.Planned.{plan_of, core_stays}
use Rattle.iteration.proofs.system.CoreSystemEquations.begins.Goals as goal

pub returns : goal.returns
returns g c =
    let s = c.self.inside in
    let plan = plan_of s.core.now c.args.self.now s.graph.now s.table.now c.self.view_is c.self.invariant in
    record {
      stays = core_stays c.args.self.now c.args.p c.proc_at.result plan.core
          (c.proc_at.ensures.found ∙ ap (λ (n : ℕ). proc_at s.core.now (n - 1)) c.procs.ensures.count ∙ ap (λ (k : Parts). proc_at k (length k.procs - 1)) c.self.view_is);
    }
