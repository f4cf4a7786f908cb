use Rattle.std.proofs.Common.{◌≡◌, map}
use Rattle.std.specs.List.{range_with_len}
use Rattle.conc_analysis.specs.Equations.{read_in}
use Rattle.conc_analysis.specs.Plan.{graph_in, stage_in}
use Rattle.conc_analysis.proofs.analysis.reads.Given as goal

abbrev pub invariant-loop-p : goal.invariant-loop-p
invariant-loop-p l = l.reads.items ≡ map (read_in (graph_in l.system) l.system.sharing (stage_in l.points l.writes)) (range_with_len 0 l.p)
