use Rattle.std.proofs.Common.{◌<◌, ◌+◌, length, map, ap, ◌∙◌, arith}
use Rattle.spl_core.specs.Graph.{graph_of}
use Rattle.equations.proofs.Gathering.{rows_long, rows_kept, sources_before, none_before, all_before, target_below, callee_below, entry_below, point_joined, entry_joined, none_entered}
use Rattle.equations.proofs.finding.source_lists.Goals as goal
use Rattle.equations.proofs.finding.source_lists.Goals.{in-Call+in_ok-push_onto-2, in_default}

pub loop-e-init : goal.loop-e-init
loop-e-init c = c.in_ok-lists.ensures ∙ none_before c.args.core.now c.edge_count-e-end.ensures.known

pub push_onto-requires : goal.push_onto-requires
push_onto-requires c =
    let lt : c.loop-e.e < length c.args.core.now.edges = omega (arith, c.loop-e-test.true, c.edge_count-e-end.ensures.count) in
    let below = target_below c.args.core.now c.loop-e.e c.edge_at-edge.result c.edge_at-edge.ensures.known lt c.edge_at-edge.ensures.found in
    let long = rows_long (λ v. v.items) (sources_before (graph_of c.args.core.now) c.loop-e.e c.loop-e.e) (length c.args.core.now.owners) c.loop-e.lists.items c.loop-e.invariant in
    omega (arith, below, long)

pub push_onto-requires-in-Call : goal.push_onto-requires-in-Call
push_onto-requires-in-Call c =
    let lt : c.loop-e.e < length c.args.core.now.edges = omega (arith, c.loop-e-test.true, c.edge_count-e-end.ensures.count) in
    let callee = callee_below c.args.core.now c.loop-e.e c.in-Call.callee c.edge_at-edge.result c.in-Call.args c.in-Call.targets c.proc_at.ensures.known lt c.edge_at-edge.ensures.found c.in-Call.is in
    let below = entry_below c.args.core.now c.in-Call.callee c.proc_at.result c.proc_at.ensures.known callee c.proc_at.ensures.found in
    let long = rows_long (λ v. v.items) (sources_before (graph_of c.args.core.now) c.loop-e.e c.loop-e.e) (length c.args.core.now.owners) c.loop-e.lists.items c.loop-e.invariant in
    let kept = rows_kept (λ v. v.items) c.loop-e.lists.items c.push_onto.new.rows.items c.edge_at-edge.result.target _ c.in_ok-push_onto.ensures in
    omega (arith, below, long, kept)

pub loop-e-preserved : goal.loop-e-preserved
loop-e-preserved c =
    let lt : c.loop-e.e < length c.args.core.now.edges = omega (arith, c.loop-e-test.true, c.edge_count-e-end.ensures.count) in
    let pointed =
    point_joined c.args.core.now c.loop-e.e c.loop-e.e c.edge_at-edge.result c.source_of.result (map (λ v. v.items) c.loop-e.lists.items) (map (λ v. v.items) c.push_onto.new.rows.items)
    c.edge_at-edge.ensures.known lt c.edge_at-edge.ensures.found c.source_of.ensures c.loop-e.invariant c.in_ok-push_onto.ensures in
    elim c.match-edge.branch [
      | in-Call+in_ok-push_onto-2 w ↦
          entry_joined c.args.core.now c.loop-e.e (c.loop-e.e + 1) w.in-Call.callee c.edge_at-edge.result w.in-Call.args w.in-Call.targets w.proc_at.result (map (λ v. v.items) c.push_onto.new.rows.items)
          (map (λ v. v.items) c.match-edge.lists.items) c.edge_at-edge.ensures.known lt c.edge_at-edge.ensures.found w.in-Call.is w.proc_at.ensures.found pointed
          (ap (λ v. map (λ r. r.items) v.items) w.lists-is ∙ w.in_ok-push_onto-2.ensures)
      | in_default w ↦
          ap (λ v. map (λ r. r.items) v.items) w.lists-is ∙ pointed
          ∙ none_entered c.args.core.now c.loop-e.e (c.loop-e.e + 1) c.edge_at-edge.result lt c.edge_at-edge.ensures.found w.in_default.not-Call
    ]

pub returns : goal.returns
returns c = c.loop-e.invariant ∙ all_before c.args.core.now c.loop-e.e (omega (arith, c.loop-e-test.false, c.edge_count-e-end.ensures.count, c.loop-e.auto.e-end))
