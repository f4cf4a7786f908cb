use Rattle.std.proofs.Common.{◌≡◌, length, map, ap, ◌∙◌, arith}
use Rattle.std.specs.List.{range_with_len}
use Rattle.spl_core.specs.Graph.{graph_of}
use Rattle.call_graph.specs.Reach.{calls_directly}
use Rattle.call_graph.specs.Tables.{square}
use Rattle.call_graph.proofs.Rows.{rows_more}
use Rattle.call_graph.proofs.calling.call_table.Goals as goal

pub loop-p-preserved : goal.loop-p-preserved
loop-p-preserved c =
    rows_more (λ p. map (calls_directly (graph_of c.args.core.now) p) (range_with_len 0 (length c.args.core.now.procs))) c.loop-p.p c.in_ok-row.row c.loop-p.rows.items c.push.new.self.items c.loop-p.invariant c.in_ok-push.ensures.items c.in_ok-row.ensures

pub returns : goal.returns
unfolding square
returns c =
    let e : c.loop-p.p ≡ length c.args.core.now.procs = omega (arith, c.loop-p-test.false, c.loop-p.auto.p-end, c.procs-p-end.ensures.count) in
    c.loop-p.invariant ∙ ap (λ m. map (λ p. map (calls_directly (graph_of c.args.core.now) p) (range_with_len 0 (length c.args.core.now.procs))) (range_with_len 0 m)) e
