use Rattle.std.proofs.Common.{◌≡◌, ℕ, ◌<◌, Bool, inl, inr, eqb, length, get_or, ap, sym, ◌++◌, ◌∙◌, arith}
use Rattle.std.specs.List.{filter, flat_map, range_with_len}
use Rattle.std.proofs.lemmas.Bool.Decides.{Decides-eqb, eqb_tells}
use Rattle.std.proofs.lemmas.List.FromFn.{length-map-range_with_len, get_or-map-range_with_len}
use Rattle.spl_core.specs.Graph.{graph_of}
use Rattle.call_graph.specs.Reach.{reach_count}
use Rattle.call_graph.specs.Order.{points_of, procs_with, points_with}
use Rattle.call_graph.proofs.Edges.{procs_same}
use Rattle.call_graph.proofs.Ranges.{group_more, group_out}
use Rattle.call_graph.proofs.ordering.push_group.Goals as goal
use Rattle.call_graph.proofs.ordering.push_group.Goals.{then-counts-p+in_ok-push_points, else-counts-p}

pub bounds-counts-p : goal.bounds-counts-p
bounds-counts-p c = omega (arith, c.loop-p-test.true, c.procs-p-end.ensures.count, ap length c.requires, length-map-range_with_len (reach_count (graph_of c.args.core.now)) 0 (length c.args.core.now.procs))

pub loop-p-preserved : goal.loop-p-preserved
loop-p-preserved c =
    let f : ℕ → Bool = λ p. eqb (reach_count (graph_of c.args.core.now) p) c.args.k in
    let lt : c.loop-p.p < length c.args.core.now.procs = omega (arith, c.loop-p-test.true, c.procs-p-end.ensures.count) in
    let count : get_or c.args.counts.now c.loop-p.p 0 ≡ reach_count (graph_of c.args.core.now) c.loop-p.p =
    ap (λ l. get_or l c.loop-p.p 0) c.requires ∙ get_or-map-range_with_len (reach_count (graph_of c.args.core.now)) 0 (length c.args.core.now.procs) c.loop-p.p c.loop-p.p 0 lt (omega arith) in
    elim c.if-counts-p.branch [
      | then-counts-p+in_ok-push_points w ↦
          group_more (points_of (graph_of c.args.core.now)) f c.loop-p.p c.args.order.now.items c.loop-p.order.items c.if-counts-p.order.items c.loop-p.invariant
          ((Decides-eqb (reach_count (graph_of c.args.core.now) c.loop-p.p) c.args.k).1 (sym count ∙ w.if-counts-p.true)) (ap (λ v. v.items) w.order-is ∙ w.in_ok-push_points.ensures)
      | else-counts-p w ↦
          ap (λ v. v.items) w.order-is
          ∙ group_out (points_of (graph_of c.args.core.now)) f c.loop-p.p c.args.order.now.items c.loop-p.order.items c.loop-p.invariant
          (elim (eqb_tells (reach_count (graph_of c.args.core.now) c.loop-p.p) c.args.k) [ inl t ↦ absurd (w.if-counts-p.false (count ∙ t.1)) | inr t ↦ t.0 ])
    ]

pub returns : goal.returns
unfolding points_with procs_with
returns c =
    let e : c.loop-p.p ≡ length (graph_of c.args.core.now).procs = omega (arith, c.loop-p-test.false, c.procs-p-end.ensures.count, c.loop-p.auto.p-end, procs_same c.args.core.now) in
    c.loop-p.invariant ∙ ap (λ n. c.args.order.now.items ++ flat_map (points_of (graph_of c.args.core.now)) (filter (λ p. eqb (reach_count (graph_of c.args.core.now) p) c.args.k) (range_with_len 0 n))) e
