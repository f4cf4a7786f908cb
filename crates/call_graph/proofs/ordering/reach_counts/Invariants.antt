use Rattle.std.proofs.Common.{◌≡◌, map}
use Rattle.std.specs.List.{range_with_len}
use Rattle.spl_core.specs.Graph.{graph_of}
use Rattle.call_graph.specs.Reach.{reach_count}
use Rattle.call_graph.proofs.ordering.reach_counts.Given as goal

abbrev pub invariant-loop-p : goal.invariant-loop-p
invariant-loop-p l = l.counts.items ≡ map (reach_count (graph_of l.core)) (range_with_len 0 l.p)
