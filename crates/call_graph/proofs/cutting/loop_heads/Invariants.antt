use Rattle.std.proofs.Common.{◌≡◌, length, take}
use Rattle.spl_core.specs.Graph.{graph_of}
use Rattle.call_graph.specs.Order.{closes_loop_at}
use Rattle.call_graph.proofs.Marking.{marks}
use Rattle.call_graph.proofs.cutting.loop_heads.Given as goal

abbrev pub invariant-loop-e : goal.invariant-loop-e
invariant-loop-e l = l.heads.items ≡ marks closes_loop_at (length l.core.owners) (take l.e (graph_of l.core).arcs)
