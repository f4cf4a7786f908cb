use Rattle.std.proofs.Common.{rules, ◌≡◌, ℕ, ◌<◌, false, length, replicate, sym, ap, ◌∙◌, arith}
use Rattle.spl_core.specs.Graph.{graph_of, no_arc}
use Rattle.call_graph.specs.Reach.{is_call_from, calls_directly}
use Rattle.call_graph.proofs.Marking.{marks, marks_none, marks_hit, marks_miss}
use Rattle.call_graph.proofs.Edges.{edges_long, all_arcs, calls_one, calls_none, other_owner}
use Rattle.call_graph.proofs.calling.called_from.Goals as goal
use Rattle.call_graph.proofs.calling.called_from.Goals.{then-owner-p+in-Call, then-owner-p+in_default, else-owner-p}

pub loop-e-init : goal.loop-e-init
loop-e-init c =
    let blank : c.in_ok-row.row.items ≡ replicate (length c.args.core.now.procs) false = search rules in
    blank ∙ marks_none (is_call_from (graph_of c.args.core.now) c.args.p) (length c.args.core.now.procs)

pub loop-e-preserved : goal.loop-e-preserved
loop-e-preserved c =
    let g = graph_of c.args.core.now in
    let n : ℕ = length c.args.core.now.procs in
    let P = is_call_from (graph_of c.args.core.now) c.args.p in
    let lt : c.loop-e.e < length c.args.core.now.edges = omega (arith, c.loop-e-test.true, c.edge_count-e-end.ensures.count) in
    let near : c.loop-e.e < length (graph_of c.args.core.now).arcs = omega (arith, lt, edges_long c.args.core.now) in
    elim c.if-owner-p.branch [
      | then-owner-p+in-Call w ↦
          marks_hit P n w.in-Call.callee g.arcs c.loop-e.e no_arc c.loop-e.row.items c.if-owner-p.row.items near (search rules)
          (calls_one c.args.core.now c.args.p w.in-Call.callee c.loop-e.e c.edge_at-edge.result w.in-Call.args w.in-Call.targets lt c.edge_at-edge.ensures.found (sym c.owner.ensures.found ∙ w.if-owner-p.true) w.in-Call.is)
          c.loop-e.invariant (ap (λ v. v.items) w.row-is)
      | then-owner-p+in_default w ↦
          ap (λ v. v.items) w.row-is
          ∙ marks_miss P n g.arcs c.loop-e.e no_arc c.loop-e.row.items near
          (calls_none c.args.core.now c.args.p c.loop-e.e c.edge_at-edge.result lt c.edge_at-edge.ensures.found (sym c.owner.ensures.found ∙ w.if-owner-p.true) w.in_default.not-Call) c.loop-e.invariant
      | else-owner-p w ↦
          ap (λ v. v.items) w.row-is
          ∙ marks_miss P n g.arcs c.loop-e.e no_arc c.loop-e.row.items near
          (other_owner c.args.core.now c.args.p c.loop-e.e c.edge_at-edge.result lt c.edge_at-edge.ensures.found (λ own. w.if-owner-p.false (c.owner.ensures.found ∙ own))) c.loop-e.invariant
    ]

pub returns : goal.returns
unfolding calls_directly
returns c =
    c.loop-e.invariant
    ∙ ap (marks (is_call_from (graph_of c.args.core.now) c.args.p) (length c.args.core.now.procs)) (all_arcs c.args.core.now c.loop-e.e (omega (arith, c.loop-e-test.false, c.edge_count-e-end.ensures.count)))
