use Rattle.std.proofs.Common.{◌≡◌, false, length, get_or, ap, ◌∙◌, arith}
use Rattle.std.proofs.lemmas.List.FromFn.{length-map-range_with_len, get_or-map-range_with_len}
use Rattle.spl_core.specs.Graph.{graph_of}
use Rattle.call_graph.specs.Order.{is_cut}
use Rattle.call_graph.specs.Tables.{Tables, tables_of}
use Rattle.equations.proofs.Bringing.{points}
use Rattle.inv_check.proofs.checking.is_cut_point.Goals as goal

pub is_cut-requires : goal.is_cut-requires
unfolding tables_of
is_cut-requires c =
    let g = graph_of c.args.core.now in
    let e : length c.args.graph.now.cuts ≡ length g.owners = ap (λ (t : Tables). length t.cuts) c.requires.tables ∙ length-map-range_with_len (is_cut g) 0 (length g.owners) in
    omega (arith, e, points c.args.core.now, c.requires.point)

pub returns : goal.returns
unfolding tables_of
returns c =
    let g = graph_of c.args.core.now in
    c.is_cut.ensures ∙ ap (λ (t : Tables). get_or t.cuts c.args.p false) c.requires.tables
    ∙ get_or-map-range_with_len (is_cut g) 0 (length g.owners) c.args.p c.args.p false (omega (arith, points c.args.core.now, c.requires.point)) (omega arith)
