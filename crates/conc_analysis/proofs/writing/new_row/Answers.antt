use Rattle.std.proofs.Common.{None, get_or, arith, refl, ◌∙◌}
use Rattle.conc_analysis.specs.Plan.{graph_in, stage_in}
use Rattle.conc_analysis.specs.Rounds.{writes_at}
use Rattle.conc_analysis.proofs.Interfering.{table_more, widened_at, row_is, sources_long}
use Rattle.conc_analysis.proofs.writing.new_row.Goals as goal

pub loop-v-preserved : goal.loop-v-preserved
loop-v-preserved c =
    let s = c.args.system.now in
    let x = stage_in c.args.points.now c.args.writes.now in
    let size = sources_long (graph_in s) s.sharing x c.args.t c.args.n c.in_ok-sources.sources.items c.in_ok-sources.ensures in
    table_more (writes_at (graph_in s) s.sharing x c.args.t) c.loop-v.row.items c.push.new.self.items c.loop-v.v c.widen_writes.result c.loop-v.invariant c.in_ok-push.ensures.items
    (widened_at (graph_in s) s.sharing x c.args.t c.loop-v.v c.args.n c.in_ok-sources.sources.items c.written.result c.index.result.now c.widen_writes.result c.in_ok-sources.ensures (omega (arith, size, c.loop-v-test.true)) c.written.ensures c.index.ensures c.widen_writes.ensures)

pub returns : goal.returns
returns c =
    let s = c.args.system.now in
    let x = stage_in c.args.points.now c.args.writes.now in
    let size = sources_long (graph_in s) s.sharing x c.args.t c.args.n c.in_ok-sources.sources.items c.in_ok-sources.ensures in
    row_is (writes_at (graph_in s) s.sharing x) c.args.t c.loop-v.v c.args.n c.loop-v.row.items c.loop-v.invariant (omega (arith, size, c.loop-v-test.false, c.loop-v.auto.v-end))
