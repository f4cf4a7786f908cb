use Rattle.std.proofs.Common.{◌≡◌, map}
use Rattle.std.specs.List.{range_with_len}
use Rattle.spl_core.specs.Graph.{graph_of}
use Rattle.call_graph.specs.Order.{is_cut}
use Rattle.call_graph.proofs.cutting.cut_table.Given as goal

abbrev pub invariant-loop-x : goal.invariant-loop-x
invariant-loop-x l = l.cuts.items ≡ map (is_cut (graph_of l.core)) (range_with_len 0 l.x)
