use Rattle.std.proofs.Common.{◌≡◌, map}
use Rattle.std.specs.List.{range_with_len}
use Rattle.conc_analysis.specs.Rounds.{writes_row}
use Rattle.conc_analysis.specs.Solved.{no_writes}
use Rattle.conc_analysis.specs.Tables.{rows_in}
use Rattle.conc_analysis.proofs.writing.no_writes.Given as goal

abbrev pub invariant-loop-t : goal.invariant-loop-t
invariant-loop-t l = rows_in l.rows.items ≡ map (writes_row no_writes l.n) (range_with_len 0 l.t)
