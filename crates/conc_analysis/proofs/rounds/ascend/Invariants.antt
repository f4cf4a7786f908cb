use Rattle.std.proofs.Common.{length}
use Rattle.conc_analysis.specs.Plan.{graph_in, stage_in}
use Rattle.conc_analysis.proofs.Turning.{AscendedTo}
use Rattle.conc_analysis.proofs.rounds.ascend.Given as goal

abbrev pub invariant-loop-done : goal.invariant-loop-done
invariant-loop-done l = AscendedTo (graph_in l.system) l.system.sharing (length l.system.core.owners) l.order l.most l.done (stage_in l.fn.points.items l.fn.writes.items) (stage_in l.points.items l.writes.items)
