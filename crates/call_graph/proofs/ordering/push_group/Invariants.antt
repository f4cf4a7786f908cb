use Rattle.std.proofs.Common.{◌≡◌, ◌++◌, eqb}
use Rattle.std.specs.List.{filter, flat_map, range_with_len}
use Rattle.spl_core.specs.Graph.{graph_of}
use Rattle.call_graph.specs.Reach.{reach_count}
use Rattle.call_graph.specs.Order.{points_of}
use Rattle.call_graph.proofs.ordering.push_group.Given as goal

abbrev pub invariant-loop-p : goal.invariant-loop-p
invariant-loop-p l = l.order.items ≡ l.fn.order.items ++ flat_map (points_of (graph_of l.core)) (filter (λ p. eqb (reach_count (graph_of l.core) p) l.k) (range_with_len 0 l.p))
