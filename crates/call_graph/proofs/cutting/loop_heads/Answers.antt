use Rattle.std.proofs.Common.{rules, ◌≡◌, ◌<◌, false, length, replicate, ap, ◌∙◌, arith}
use Rattle.spl_core.specs.Graph.{graph_of, no_arc}
use Rattle.call_graph.specs.Order.{closes_loop_at, is_loop_head}
use Rattle.call_graph.proofs.Marking.{marks, marks_none, marks_hit, marks_miss}
use Rattle.call_graph.proofs.Edges.{edges_long, all_arcs, onward_edge, edge_back}
use Rattle.call_graph.proofs.cutting.loop_heads.Goals as goal
use Rattle.call_graph.proofs.cutting.loop_heads.Goals.{then-edge, else-edge}

pub loop-e-init : goal.loop-e-init
loop-e-init c =
    let blank : c.in_ok-heads.heads.items ≡ replicate (length c.args.core.now.owners) false = search rules in
    blank ∙ marks_none closes_loop_at (length c.args.core.now.owners)

pub loop-e-preserved : goal.loop-e-preserved
loop-e-preserved c =
    let lt : c.loop-e.e < length c.args.core.now.edges = omega (arith, c.loop-e-test.true, c.edge_count-e-end.ensures.count) in
    let near : c.loop-e.e < length (graph_of c.args.core.now).arcs = omega (arith, lt, edges_long c.args.core.now) in
    elim c.if-edge.branch [
      | then-edge w ↦
          marks_hit closes_loop_at (length c.args.core.now.owners) c.edge_at-edge.result.target (graph_of c.args.core.now).arcs c.loop-e.e no_arc c.loop-e.heads.items c.if-edge.heads.items near (search rules)
          (edge_back c.args.core.now c.loop-e.e c.edge_at-edge.result lt c.edge_at-edge.ensures.found w.if-edge.true) c.loop-e.invariant (ap (λ v. v.items) w.heads-is)
      | else-edge w ↦
          ap (λ v. v.items) w.heads-is
          ∙ marks_miss closes_loop_at (length c.args.core.now.owners) (graph_of c.args.core.now).arcs c.loop-e.e no_arc c.loop-e.heads.items near
          (onward_edge c.args.core.now c.loop-e.e c.edge_at-edge.result lt c.edge_at-edge.ensures.found w.if-edge.false) c.loop-e.invariant
    ]

pub returns : goal.returns
unfolding is_loop_head
returns c = c.loop-e.invariant ∙ ap (marks closes_loop_at (length c.args.core.now.owners)) (all_arcs c.args.core.now c.loop-e.e (omega (arith, c.loop-e-test.false, c.edge_count-e-end.ensures.count)))
