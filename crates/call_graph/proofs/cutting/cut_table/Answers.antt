use Rattle.std.proofs.Common.{◌≡◌, ◌<◌, ◌||◌, length, get_or, ap, sym, ◌∙◌, arith}
use Rattle.std.proofs.lemmas.Bool.{or_left}
use Rattle.std.proofs.lemmas.List.FromFn.{length-map-range_with_len, get_or-map-range_with_len}
use Rattle.spl_core.specs.Graph.{graph_of}
use Rattle.call_graph.specs.Order.{is_loop_head, is_entry, is_recursive_exit, is_cut}
use Rattle.call_graph.proofs.Closing.{map-more}
use Rattle.call_graph.proofs.cutting.cut_table.Goals as goal
use Rattle.call_graph.proofs.cutting.cut_table.Goals.{then-index, else-index}

pub index-requires : goal.index-requires
index-requires c = omega (arith, c.loop-x-test.true, c.points-x-end.ensures.count, ap length c.in_ok-heads.ensures, length-map-range_with_len (is_loop_head (graph_of c.args.core.now)) 0 (length c.args.core.now.owners))

pub loop-x-preserved : goal.loop-x-preserved
unfolding is_cut
loop-x-preserved c =
    let lt : c.loop-x.x < length c.args.core.now.owners = omega (arith, c.loop-x-test.true, c.points-x-end.ensures.count) in
    let head : c.index.result.now ≡ is_loop_head (graph_of c.args.core.now) c.loop-x.x =
    c.index.ensures ∙ ap (λ l. get_or l c.loop-x.x c.index.result.now) c.in_ok-heads.ensures
    ∙ get_or-map-range_with_len (is_loop_head (graph_of c.args.core.now)) 0 (length c.args.core.now.owners) c.loop-x.x c.loop-x.x c.index.result.now lt (omega arith) in
    let cut : c.if-index.cut ≡ (is_loop_head (graph_of c.args.core.now) c.loop-x.x || (is_entry (graph_of c.args.core.now) c.loop-x.x || is_recursive_exit (graph_of c.args.core.now) c.loop-x.x)) = elim c.if-index.branch [
      | then-index w ↦ w.cut-is ∙ w.if-index.true ∙ sym (or_left _ _ (sym head ∙ w.if-index.true))
      | else-index w ↦ w.cut-is ∙ w.cuts_procedure-cut.ensures ∙ ap (λ b. b || (is_entry (graph_of c.args.core.now) c.loop-x.x || is_recursive_exit (graph_of c.args.core.now) c.loop-x.x)) (sym (sym head ∙ w.if-index.false))
    ] in
    map-more (is_cut (graph_of c.args.core.now)) c.loop-x.x c.if-index.cut c.loop-x.cuts.items c.push.new.self.items c.loop-x.invariant c.in_ok-push.ensures.items cut
