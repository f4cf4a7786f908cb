use Rattle.std.proofs.Common.{length, take}
use Rattle.conc_analysis.specs.Plan.{graph_in, stage_in}
use Rattle.conc_analysis.proofs.Turning.{FallenTo}
use Rattle.conc_analysis.proofs.rounds.fall.Given as goal

abbrev pub invariant-loop-p : goal.invariant-loop-p
invariant-loop-p l = FallenTo (graph_in l.system) l.system.sharing (length l.system.core.owners) (take l.p-index l.order) (stage_in l.fn.points.items l.writes) (stage_in l.points.items l.writes)
