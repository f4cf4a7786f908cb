use Rattle.std.proofs.Common.{◌≡◌, ◌<◌, ◌∷◌, ◌++◌, [], length, map, take, get_or, sym, ap, ◌∙◌, arith}
use Rattle.std.proofs.lemmas.List.{get_or-map, map-set, take_all}
use Rattle.std.specs.List.{range_with_len}
use Rattle.spl_runs.specs.Leaving.{edges_out, leaving}
use Rattle.spl_runs.proofs.Outgoing.{none_yet, one_more, lists_long, source_below}
use Rattle.spl_runs.proofs.leaving.edges_out.Goals as goal

pub loop-e-init : goal.loop-e-init
loop-e-init c = c.in_ok-lists.ensures ∙ none_yet c.points.result ∙ ap (λ n. map (leaving []) (range_with_len 0 n)) c.points.ensures.count

pub index_mut-requires : goal.index_mut-requires
index_mut-requires c =
    let lt : c.loop-e.e < length c.args.core.now.edges = omega (arith, c.loop-e-test.true, c.edge_count-e-end.ensures.count) in
    let s : c.edge_at-edge.result.source < length c.args.core.now.owners = source_below c.args.core.now c.loop-e.e c.edge_at-edge.result c.edge_at-edge.ensures.known lt c.edge_at-edge.ensures.found in
    let n : length c.loop-e.lists.items ≡ length c.args.core.now.owners = lists_long (λ v. v.items) (take c.loop-e.e c.args.core.now.edges) (length c.args.core.now.owners) c.loop-e.lists.items c.loop-e.invariant in
    omega (arith, s, n, c.loop-e.lists.ok.0)

pub loop-e-preserved : goal.loop-e-preserved
loop-e-preserved c =
    let lt : c.loop-e.e < length c.args.core.now.edges = omega (arith, c.loop-e-test.true, c.edge_count-e-end.ensures.count) in
    let s : c.edge_at-edge.result.source < length c.args.core.now.owners = source_below c.args.core.now c.loop-e.e c.edge_at-edge.result c.edge_at-edge.ensures.known lt c.edge_at-edge.ensures.found in
    let n : length c.loop-e.lists.items ≡ length c.args.core.now.owners = lists_long (λ v. v.items) (take c.loop-e.e c.args.core.now.edges) (length c.args.core.now.owners) c.loop-e.lists.items c.loop-e.invariant in
    let w : c.index_mut.result.now.items ≡ get_or (map (λ v. v.items) c.loop-e.lists.items) c.edge_at-edge.result.source [] =
    ap (λ v. v.items) c.index_mut.ensures.value ∙ sym (get_or-map (λ v. v.items) c.loop-e.lists.items c.edge_at-edge.result.source c.index_mut.result.now [] (omega (arith, s, n))) in
    one_more c.args.core.now.edges c.loop-e.e (length c.args.core.now.owners) c.edge_at-edge.result (map (λ v. v.items) c.loop-e.lists.items) _ c.push.new.self.items lt c.edge_at-edge.ensures.found s
    c.loop-e.invariant (c.in_ok-push.ensures.items ∙ ap (λ l. l ++ c.edge_at-edge.result ∷ []) w) (map-set (λ v. v.items) c.loop-e.lists.items c.edge_at-edge.result.source c.push.new.self)

pub returns : goal.returns
unfolding edges_out
returns c =
    c.loop-e.invariant
    ∙ ap (λ xs. map (leaving xs) (range_with_len 0 (length c.args.core.now.owners))) (take_all c.loop-e.e c.args.core.now.edges (omega (arith, c.loop-e-test.false, c.edge_count-e-end.ensures.count)))
