use Rattle.std.proofs.Common.{◌≡◌, ℕ, ◌<◌, ◌||◌, Bool, false, eqb, List, length, get_or, map, ap, ◌∙◌, arith}
use Rattle.std.specs.List.{count_by, range_with_len}
use Rattle.spl_core.specs.Graph.{graph_of}
use Rattle.call_graph.specs.Reach.{is_reached, reaches, reach_count}
use Rattle.call_graph.proofs.Closing.{map-more}
use Rattle.call_graph.proofs.Edges.{procs_same}
use Rattle.call_graph.proofs.Ranges.{count_same}
use Rattle.call_graph.proofs.Rows.{rows_long, row_long, row_bit}
use Rattle.call_graph.proofs.ordering.reach_counts.Goals as goal

pub loop-p-preserved : goal.loop-p-preserved
unfolding reach_count
loop-p-preserved c =
    let n : ℕ = length c.args.core.now.procs in
    let rows = c.args.reached.now in
    let row = c.index-reached-p.result in
    let lt : c.loop-p.p < length c.args.core.now.procs = omega (arith, c.loop-p-test.true, rows_long c.args.reached.now (length c.args.core.now.procs) (reaches (graph_of c.args.core.now)) c.requires) in
    let long : length c.deref.result.now ≡ length c.args.core.now.procs = ap length c.deref.ensures.value ∙ row_long c.args.reached.now (length c.args.core.now.procs) c.loop-p.p (reaches (graph_of c.args.core.now)) c.index-reached-p.result c.requires lt c.index-reached-p.is in
    let same : (q : ℕ) → q < n → (eqb q c.loop-p.p || get_or c.deref.result.now q false) ≡ is_reached (graph_of c.args.core.now) c.loop-p.p q =
    λ q lq. ap (λ b. eqb q c.loop-p.p || b) (ap (λ (l : List Bool). get_or l q false) c.deref.ensures.value ∙ row_bit rows n c.loop-p.p q (reaches (graph_of c.args.core.now)) row c.requires lt lq c.index-reached-p.is) in
    let counted : c.count_reached.result ≡ count_by (is_reached (graph_of c.args.core.now) c.loop-p.p) (range_with_len 0 (length (graph_of c.args.core.now).procs)) =
    c.count_reached.ensures
    ∙ ap (λ (m : ℕ). count_by (λ q. eqb q c.loop-p.p || get_or c.deref.result.now q false) (range_with_len 0 m)) long
    ∙ count_same (λ q. eqb q c.loop-p.p || get_or c.deref.result.now q false) (is_reached (graph_of c.args.core.now) c.loop-p.p) n same
    ∙ ap (λ (m : ℕ). count_by (is_reached (graph_of c.args.core.now) c.loop-p.p) (range_with_len 0 m)) (procs_same c.args.core.now) in
    map-more (reach_count (graph_of c.args.core.now)) c.loop-p.p c.count_reached.result c.loop-p.counts.items c.push.new.self.items c.loop-p.invariant c.in_ok-push.ensures.items counted

pub returns : goal.returns
returns c =
    let e : c.loop-p.p ≡ length c.args.core.now.procs = omega (arith, c.loop-p-test.false, c.loop-p.auto.p-end, rows_long c.args.reached.now (length c.args.core.now.procs) (reaches (graph_of c.args.core.now)) c.requires) in
    c.loop-p.invariant ∙ ap (λ m. map (reach_count (graph_of c.args.core.now)) (range_with_len 0 m)) e
