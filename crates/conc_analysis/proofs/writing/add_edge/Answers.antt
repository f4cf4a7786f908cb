use Rattle.std.proofs.Common.{None, get_or}
use Rattle.conc_analysis.specs.Plan.{stage_in}
use Rattle.conc_analysis.proofs.Interfering.{edge_of_other, edge_of_thread}
use Rattle.conc_analysis.proofs.writing.add_edge.Goals as goal

pub returns-then-owner-t-clause-joined : goal.returns-then-owner-t-clause-joined
returns-then-owner-t-clause-joined c v l =
    let s = c.args.system.now in
    edge_of_other c.core-core.result.now s.core s.sharing (stage_in c.args.points.now c.args.writes.now) c.args.t v c.args.e c.edge_at.result c.owner.result (get_or c.args.row.now.items v None) c.core-core.ensures.value c.edge_at.ensures.found c.owner.ensures.found c.if-owner-t.true

pub returns-clause-joined : goal.returns-clause-joined
returns-clause-joined c v l =
    let s = c.args.system.now in
    edge_of_thread c.core-core.result.now s.core s.sharing (stage_in c.args.points.now c.args.writes.now) c.args.t v c.args.e c.edge_at.result c.owner.result (get_or c.args.row.now.items v None) (get_or c.add.new.row.items v None) c.in_ok-write.write
    c.core-core.ensures.value c.edge_at.ensures.found c.owner.ensures.found c.if-owner-t.false (c.in_ok-write.ensures v) (c.add.ensures.joined v l)
