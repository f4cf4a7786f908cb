use Rattle.std.proofs.Common.{◌≡◌, ◌++◌, eqb}
use Rattle.std.specs.List.{filter, range_with_len}
use Rattle.spl_core.specs.Graph.{graph_of, owner_of}
use Rattle.call_graph.proofs.ordering.push_points.Given as goal

abbrev pub invariant-loop-x : goal.invariant-loop-x
invariant-loop-x l = l.order.items ≡ l.fn.order.items ++ filter (λ x. eqb (owner_of (graph_of l.core) x) l.p) (range_with_len 0 l.x)
