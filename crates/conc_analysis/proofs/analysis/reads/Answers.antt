use Rattle.conc_analysis.specs.Equations.{read_in}
use Rattle.conc_analysis.specs.Plan.{graph_in, stage_in}
use Rattle.conc_analysis.proofs.Interfering.{table_more}
use Rattle.conc_analysis.proofs.analysis.reads.Goals as goal

pub loop-p-preserved : goal.loop-p-preserved
loop-p-preserved c =
    let s = c.args.system.now in
    table_more (read_in (graph_in s) s.sharing (stage_in c.args.points.now c.args.writes.now)) c.loop-p.reads.items c.push.new.self.items c.loop-p.p c.in_ok-environment.environment c.loop-p.invariant c.in_ok-push.ensures.items c.in_ok-environment.ensures
