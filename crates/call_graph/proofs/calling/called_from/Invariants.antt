use Rattle.std.proofs.Common.{◌≡◌, length, take}
use Rattle.spl_core.specs.Graph.{graph_of}
use Rattle.call_graph.specs.Reach.{is_call_from}
use Rattle.call_graph.proofs.Marking.{marks}
use Rattle.call_graph.proofs.calling.called_from.Given as goal

abbrev pub invariant-loop-e : goal.invariant-loop-e
invariant-loop-e l = l.row.items ≡ marks (is_call_from (graph_of l.core) l.p) (length l.core.procs) (take l.e (graph_of l.core).arcs)
