use Rattle.std.proofs.Common.{◌≡◌, ◌+◌, length, ap, ◌∙◌, arith}
use Rattle.std.specs.List.{flat_map, range_with_len}
use Rattle.std.proofs.lemmas.List.FromFn.{length-map-range_with_len}
use Rattle.spl_core.specs.Graph.{graph_of}
use Rattle.call_graph.specs.Reach.{reach_count}
use Rattle.call_graph.specs.Order.{points_with, order}
use Rattle.call_graph.proofs.Edges.{procs_same}
use Rattle.call_graph.proofs.Ranges.{flat_more}
use Rattle.call_graph.proofs.ordering.ordered.Goals as goal

pub loop-k-preserved : goal.loop-k-preserved
loop-k-preserved c = flat_more (points_with (graph_of c.args.core.now)) c.loop-k.k c.loop-k.order.items c.push_group.new.order.items c.loop-k.invariant c.in_ok-push_group.ensures

pub returns : goal.returns
unfolding order
returns c =
    let e : c.loop-k.k ≡ length (graph_of c.args.core.now).procs + 1 = omega (arith, c.loop-k-test.false, c.loop-k.auto.k-end, c.len-k-end.ensures, ap length c.in_ok-counts.ensures, length-map-range_with_len (reach_count (graph_of c.args.core.now)) 0 (length c.args.core.now.procs), procs_same c.args.core.now) in
    c.loop-k.invariant ∙ ap (λ n. flat_map (points_with (graph_of c.args.core.now)) (range_with_len 0 n)) e
