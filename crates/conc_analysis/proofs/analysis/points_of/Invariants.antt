use Rattle.std.proofs.Common.{◌≡◌, take}
use Rattle.std.specs.List.{filter}
use Rattle.call_graph.specs.Order.{order}
use Rattle.conc_analysis.specs.Plan.{graph_in}
use Rattle.conc_analysis.specs.Solved.{is_of_kind}
use Rattle.conc_analysis.proofs.analysis.points_of.Given as goal

abbrev pub invariant-loop-p : goal.invariant-loop-p
invariant-loop-p l = l.points.items ≡ filter (is_of_kind (graph_in l.system) l.main) (take l.p-index (order (graph_in l.system)))
