use Rattle.std.proofs.Common.{◌≡◌, length, map}
use Rattle.std.specs.List.{range_with_len}
use Rattle.spl_core.specs.Graph.{graph_of}
use Rattle.equations.proofs.Gathering.{sources_before}
use Rattle.equations.proofs.finding.source_lists.Given as goal

abbrev pub invariant-loop-e : goal.invariant-loop-e
invariant-loop-e l = map (λ v. v.items) l.lists.items ≡ map (sources_before (graph_of l.core) l.e l.e) (range_with_len 0 (length l.core.owners))
