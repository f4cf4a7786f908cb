use Rattle.std.proofs.Common.{length}
use Rattle.spl_core.specs.Graph.{graph_of}
use Rattle.call_graph.specs.Reach.{reaches}
use Rattle.call_graph.specs.Tables.{tables_of}
use Rattle.call_graph.proofs.Rows.{is_square_table, same_tables}
use Rattle.call_graph.proofs.building.graph.Goals as goal

pub invariant_of-result : goal.invariant_of-result
invariant_of-result c = is_square_table c.in_ok-reached.reached.items (length c.args.core.now.procs) (reaches (graph_of c.args.core.now)) c.in_ok-reached.ensures

pub returns : goal.returns
unfolding tables_of graph_of
returns c = same_tables _ _ _ _ _ _ c.in_ok-reached.ensures c.in_ok-order.ensures c.in_ok-cuts.ensures
