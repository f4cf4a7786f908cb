use Rattle.std.proofs.Common.{arith}
use Rattle.conc_analysis.specs.Plan.{graph_in, stage_in}
use Rattle.conc_analysis.specs.Rounds.{writes_at, writes_row}
use Rattle.conc_analysis.specs.Tables.{rows_in}
use Rattle.conc_analysis.proofs.Interfering.{rows_more, rows_are}
use Rattle.conc_analysis.proofs.writing.new_writes.Goals as goal

pub loop-t-preserved : goal.loop-t-preserved
loop-t-preserved c =
    let s = c.args.system.now in
    rows_more (writes_row (writes_at (graph_in s) s.sharing (stage_in c.args.points.now c.args.writes.now)) c.proc_at-n.result.dims) c.loop-t.rows.items c.push.new.self.items c.in_ok-row.row c.loop-t.t c.loop-t.invariant c.in_ok-push.ensures.items c.in_ok-row.ensures

pub returns : goal.returns
returns c =
    let s = c.args.system.now in
    rows_are c.core-core.result.now s.core (writes_at (graph_in s) s.sharing (stage_in c.args.points.now c.args.writes.now)) (rows_in c.loop-t.rows.items) c.loop-t.t c.procs-main.result c.proc_at-n.result c.core-core.ensures.value c.procs-main.ensures.count c.proc_at-n.ensures.found
    (omega (arith, c.loop-t-test.false, c.loop-t.auto.t-end)) c.loop-t.invariant
