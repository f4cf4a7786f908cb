use Rattle.std.proofs.Common.{◌≡◌, map}
use Rattle.std.specs.List.{range_with_len}
use Rattle.conc_analysis.specs.Plan.{graph_in, stage_in}
use Rattle.conc_analysis.specs.Rounds.{writes_at, writes_row}
use Rattle.conc_analysis.specs.Tables.{rows_in}
use Rattle.conc_analysis.proofs.writing.new_writes.Given as goal

abbrev pub invariant-loop-t : goal.invariant-loop-t
invariant-loop-t l = rows_in l.rows.items ≡ map (writes_row (writes_at (graph_in l.system) l.system.sharing (stage_in l.points l.writes)) l.n) (range_with_len 0 l.t)
