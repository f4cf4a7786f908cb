use Rattle.std.proofs.Common.{◌≡◌, length, map}
use Rattle.spl_core.specs.Graph.{graph_of}
use Rattle.call_graph.specs.Reach.{reaches_below}
use Rattle.call_graph.specs.Tables.{square}
use Rattle.call_graph.proofs.closure.closed.Given as goal

abbrev pub invariant-loop-k : goal.invariant-loop-k
invariant-loop-k l = map (λ v. v.items) l.rows.items ≡ square (length l.core.procs) (reaches_below (graph_of l.core) l.k)
