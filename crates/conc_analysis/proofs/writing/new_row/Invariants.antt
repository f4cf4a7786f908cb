use Rattle.std.proofs.Common.{◌≡◌, map}
use Rattle.std.specs.List.{range_with_len}
use Rattle.conc_analysis.specs.Plan.{graph_in, stage_in}
use Rattle.conc_analysis.specs.Rounds.{writes_at}
use Rattle.conc_analysis.proofs.writing.new_row.Given as goal

abbrev pub invariant-loop-v : goal.invariant-loop-v
invariant-loop-v l = l.row.items ≡ map (writes_at (graph_in l.system) l.system.sharing (stage_in l.points l.writes) l.t) (range_with_len 0 l.v)
