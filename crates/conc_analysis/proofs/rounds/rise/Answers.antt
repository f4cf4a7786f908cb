use Rattle.std.proofs.Common.{length, get_or, refl, arith}
use Rattle.conc_analysis.specs.Plan.{graph_in, stage_in}
use Rattle.conc_analysis.proofs.Turning.{rise_more}
use Rattle.conc_analysis.proofs.rounds.rise.Goals as goal

pub loop-p-preserved : goal.loop-p-preserved
loop-p-preserved c =
    let s = c.args.system.now in
    rise_more (graph_in s) s.sharing (length s.core.owners) c.args.order.now c.loop-p.p-index (get_or c.args.order.now c.loop-p.p-index 0) (stage_in c.args.points.now.items c.args.writes.now) (stage_in c.loop-p.points.items c.args.writes.now) c.rise_at.new.points.items
    c.loop-p.changed c.in_ok-here.here c.loop-p-test.true refl c.loop-p.invariant c.in_ok-here.ensures.points c.in_ok-here.ensures.changed
