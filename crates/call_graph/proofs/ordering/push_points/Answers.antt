use Rattle.std.proofs.Common.{◌≡◌, ℕ, Bool, inl, inr, eqb, length, get_or, ap, sym, ◌++◌, ◌∙◌, arith}
use Rattle.std.specs.List.{filter, range_with_len}
use Rattle.std.proofs.lemmas.Bool.Decides.{Decides-eqb, eqb_tells}
use Rattle.spl_core.specs.Graph.{graph_of}
use Rattle.call_graph.specs.Order.{points_of}
use Rattle.call_graph.proofs.Ranges.{kept_more, left_out}
use Rattle.call_graph.proofs.ordering.push_points.Goals as goal
use Rattle.call_graph.proofs.ordering.push_points.Goals.{then-owner-p+in_ok-push, else-owner-p}

pub loop-x-preserved : goal.loop-x-preserved
unfolding graph_of
loop-x-preserved c =
    let f : ℕ → Bool = λ x. eqb (get_or c.args.core.now.owners x 0) c.args.p in
    elim c.if-owner-p.branch [
      | then-owner-p+in_ok-push w ↦
          kept_more f c.loop-x.x c.args.order.now.items c.loop-x.order.items c.if-owner-p.order.items c.loop-x.invariant
          ((Decides-eqb (get_or c.args.core.now.owners c.loop-x.x 0) c.args.p).1 (sym c.owner.ensures.found ∙ w.if-owner-p.true)) (ap (λ v. v.items) w.order-is ∙ w.in_ok-push.ensures.items)
      | else-owner-p w ↦
          ap (λ v. v.items) w.order-is
          ∙ left_out f c.loop-x.x c.args.order.now.items c.loop-x.order.items c.loop-x.invariant
          (elim (eqb_tells (get_or c.args.core.now.owners c.loop-x.x 0) c.args.p) [ inl t ↦ absurd (w.if-owner-p.false (c.owner.ensures.found ∙ t.1)) | inr t ↦ t.0 ])
    ]

pub returns : goal.returns
unfolding points_of graph_of
returns c =
    let e : c.loop-x.x ≡ length c.args.core.now.owners = omega (arith, c.loop-x-test.false, c.points-x-end.ensures.count, c.loop-x.auto.x-end) in
    c.loop-x.invariant ∙ ap (λ n. c.args.order.now.items ++ filter (λ x. eqb (get_or c.args.core.now.owners x 0) c.args.p) (range_with_len 0 n)) e
