use Rattle.std.proofs.Common.{◌≡◌, None, take}
use Rattle.std.specs.List.{fold}
use Rattle.conc_analysis.specs.Equations.{with_arc}
use Rattle.conc_analysis.specs.Plan.{graph_in, stage_in}
use Rattle.conc_analysis.proofs.equation.equation.Given as goal

abbrev pub invariant-loop-e : goal.invariant-loop-e
invariant-loop-e l = l.v ≡ fold (with_arc (graph_in l.system) l.system.sharing (stage_in l.points l.writes) l.p) None (take l.e (graph_in l.system).arcs)
