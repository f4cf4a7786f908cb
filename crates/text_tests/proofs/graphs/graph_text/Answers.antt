use Rattle.std.proofs.Common.{length, ap, arith}
use Rattle.std.proofs.lemmas.List.FromFn.{length-map-range_with_len}
use Rattle.spl_core.specs.Graph.{graph_of}
use Rattle.call_graph.specs.Order.{is_cut}
use Rattle.call_graph.specs.Tables.{Tables, tables_of}
use Rattle.text_tests.proofs.graphs.graph_text.Goals as goal

pub is_cut-cut-requires : goal.is_cut-cut-requires
unfolding tables_of graph_of
is_cut-cut-requires c =
    omega (arith, ap (λ (t : Tables). length t.cuts) c.requires, length-map-range_with_len (is_cut (graph_of c.args.core.now)) 0 (length c.args.core.now.owners), c.loop-at-test.true, c.points-at-end.ensures.count)
