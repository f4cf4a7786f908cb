use Rattle.conc_analysis.specs.Plan.{graph_in, stage_in}
use Rattle.conc_analysis.proofs.Turning.{lowered_is}
use Rattle.conc_analysis.proofs.rounds.lower.Goals as goal

pub returns-clause-points : goal.returns-clause-points
returns-clause-points c =
    let s = c.args.system.now in
    lowered_is (graph_in s) s.sharing c.args.order.now (stage_in c.args.points.now.items c.args.writes.now) (stage_in c.fall.new.points.items c.args.writes.now) (stage_in c.fall-2.new.points.items c.args.writes.now) c.in_ok-fall.ensures.points c.in_ok-fall-2.ensures.points
