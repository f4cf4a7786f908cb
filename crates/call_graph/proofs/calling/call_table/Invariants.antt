use Rattle.std.proofs.Common.{◌≡◌, length, map}
use Rattle.std.specs.List.{range_with_len}
use Rattle.spl_core.specs.Graph.{graph_of}
use Rattle.call_graph.specs.Reach.{calls_directly}
use Rattle.call_graph.proofs.calling.call_table.Given as goal

abbrev pub invariant-loop-p : goal.invariant-loop-p
invariant-loop-p l = map (λ v. v.items) l.rows.items ≡ map (λ p. map (calls_directly (graph_of l.core) p) (range_with_len 0 (length l.core.procs))) (range_with_len 0 l.p)
