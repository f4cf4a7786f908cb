use Rattle.std.proofs.Common.{◌≡◌, refl, ap, length, get_or, List, ℕ, arith, ◌∙◌}
use Rattle.call_graph.specs.Order.{order}
use Rattle.conc_analysis.specs.Plan.{graph_in}
use Rattle.conc_analysis.proofs.Turning.{in_order, points_more, points_are, points_inside}
use Rattle.conc_analysis.proofs.analysis.points_of.Goals as goal

pub is_of_kind-requires : goal.is_of_kind-requires
is_of_kind-requires c =
    in_order c.args.system.now.core c.order-p-items.result.now c.loop-p.p-index 0 c.order-p-items.ensures.known c.order-p-items.ensures.found c.loop-p-test.true

pub loop-p-preserved : goal.loop-p-preserved
loop-p-preserved c =
    let s = c.args.system.now in
    points_more (graph_in s) c.args.main c.is_of_kind.result (order (graph_in s)) c.loop-p.points.items c.push_point.new.points.items c.loop-p.p-index (get_or c.order-p-items.result.now c.loop-p.p-index 0)
    (omega (arith, c.loop-p-test.true, ap (λ (z : List ℕ). length z) c.order-p-items.ensures.found)) (ap (λ (z : List ℕ). get_or z c.loop-p.p-index 0) c.order-p-items.ensures.found) c.is_of_kind.ensures c.loop-p.invariant c.in_ok-push_point.ensures

pub returns-clause-points : goal.returns-clause-points
returns-clause-points c =
    points_are (graph_in c.args.system.now) c.args.main c.loop-p.points.items c.loop-p.p-index (omega (arith, c.loop-p-test.false, ap (λ (z : List ℕ). length z) c.order-p-items.ensures.found)) c.loop-p.invariant

pub returns-clause-inside : goal.returns-clause-inside
returns-clause-inside c =
    points_inside c.args.system.now.core c.args.main c.loop-p.points.items c.order-p-items.ensures.known
    (points_are (graph_in c.args.system.now) c.args.main c.loop-p.points.items c.loop-p.p-index (omega (arith, c.loop-p-test.false, ap (λ (z : List ℕ). length z) c.order-p-items.ensures.found)) c.loop-p.invariant)
